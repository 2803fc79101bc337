use borrow.Author.Tests.{lt-ltb, le-ltb}
use Rattle.std.proofs.Common.{◌≡◌, ◌≤◌, ◌<◌, length, sym, ◌∙◌, arith}
use Rattle.record.specs.Layout.{kind_of, gives, map_of}
use Rattle.record.specs.Write.{record_in, refused_write, placed}
use Rattle.record.specs.Size.{record_size}
use Rattle.record.proofs.Stores.{sets_front}
use Rattle.record.proofs.Writing.{write_known, length_laid}
use Rattle.writer.proofs.write_call.Goals as goal
use Rattle.writer.proofs.write_call.Goals.{In_ok-map}

-- the map that was found is the kind's
has-map : (c : In_ok-map) → map_of c.args.kind ≡ gives c.in_ok-map.map
has-map c = sym (rw c.in_ok-map.ensures.ok_part at c.legal_map.ensures)

pub returns-then-too_many : goal.returns-then-too_many
unfolding refused_write
returns-then-too_many c =
    rw (write_known _ (has-map (goal.at.returns-then-too_many c).In_ok-map), sym c.too_many.ensures ∙ c.if-too_many.true)

pub returns-then-out-size : goal.returns-then-out-size
unfolding refused_write
returns-then-out-size c =
    let a = c.args in
    let l : length a.out.now < record_size c.in_ok-map.map (length a.bytes.now) = omega arith in
    rw (write_known _ (has-map (goal.at.returns-then-out-size c).In_ok-map), sym c.too_many.ensures ∙ c.if-too_many.false, lt-ltb _ _ l)

pub returns : goal.returns
unfolding placed
returns c =
    let a = c.args in
    let known = has-map (goal.at.returns c).In_ok-map in
    let r = record_in (kind_of a.kind) a.fields a.bytes.now in
    let e = length_laid a.kind known a.fields a.bytes.now in
    let l : record_size c.in_ok-map.map (length a.bytes.now) ≤ length a.out.now = omega arith in
    let h : length r ≤ length a.out.now = omega arith in
    rw (
      write_known _ known,
      sym c.too_many.ensures ∙ c.if-too_many.false,
      le-ltb _ _ l,
      c.put_record.ensures,
      sets_front r a.out.now h,
      e,
      c.record_size-size.ensures,
    )
