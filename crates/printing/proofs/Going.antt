-- What the program's loop keeps, from buffer to buffer.
use Prim.Native.Nat.{ℕ, ◌+◌, ◌*◌, ◌-◌, ◌^◌, ◌≤◌, ◌<◌}
use mathlib.Core.Path.{◌≡◌, refl, ap, sym, ◌∙◌}
use mathlib.Core.List.{List, [], ◌++◌}
use native.Mathlib.Omega.{arith}
use lib.ListN.{length, take, drop, replicate, length-append, length-take, length-drop, drop_of_length-le}
use lib.Seq.{drop-drop, take-append_seam, drop_at}
use borrow.Author.Tests.{lt-ltb, le-ltb}
use Rattle.ideal.specs.declared.BoxRecord.{BoxRecord}
use Rattle.ideal.specs.declared.EscrowRow.{EscrowRow}
use Rattle.ideal.specs.declared.LogRow.{LogRow}
use Rattle.ideal.specs.declared.Profile.{Profile}
use Rattle.ideal.specs.Tables.{Tables, fresh_tables, flat, lent_tables}
use Rattle.ideal.specs.Box.{answers_from}
use Rattle.ideal.specs.LevelOne.{box_of}
use Rattle.ideal.specs.Layouts.{Sound}
use Rattle.ideal.proofs.Kept.{fresh_box}
use Rattle.sheet.specs.Records.{records_from}
use Rattle.sheet.specs.Sheet.{bytes_of, header, too_long, lines_of, sheet}
use Rattle.turns.specs.Next.{Turn, turns, Writes, GoesOn, TurnMade}
use Rattle.turns.proofs.OneByOne.{turns_write, turns_go_on, to_the_end, front_length, front_text}
use Rattle.std.specs.Prelude.{Result, Ok, Err}
use Rattle.printing.specs.declared.output.Progress.{Progress}
use Rattle.printing.specs.declared.output.Unwritten.{Unwritten}
use Rattle.printing.specs.Printing.{NextPart, PrintedPart, PrintedWhole}

-- a script that was read is no longer than its buffer
pub read_within : (n : ℕ) (buffer : List ℕ) → n ≤ length buffer → length buffer ≡ 65537 → length (take n buffer) ≤ 65537
read_within n buffer h e = omega (arith, length-take n buffer)

-- ---- parts of a text

-- a part lies within its text
pub part_within : {text bytes : List ℕ} {printed : ℕ} → NextPart text printed bytes → printed + length bytes ≤ length text
part_within {text} {bytes} {printed} p =
    omega (arith, p.some, ap length p.same, length-take (length bytes) (drop printed text), length-drop printed text)

pub part_of : (bytes more : List ℕ) {text : List ℕ} {printed : ℕ} → drop printed text ≡ bytes ++ more → 0 < length bytes
    → NextPart text printed bytes
part_of bytes more e h = record { some = h; same = sym (ap (take (length bytes)) e ∙ take-append_seam bytes more) }

-- the last part printed, or not
pub last_part : {text bytes : List ℕ} {printed : ℕ} (r : Result Progress Unwritten) → NextPart text printed bytes → PrintedPart r printed bytes
    → printed + length bytes ≡ length text → PrintedWhole r text
last_part (Ok u) p h e = h ∙ e
last_part (Err f) p h e = omega (arith, p.some, h, e)

-- a part that failed
pub failed_part : {text bytes : List ℕ} {printed : ℕ} (r : Result Progress Unwritten) (f : Unwritten) → r ≡ Err f → NextPart text printed bytes
    → PrintedPart r printed bytes → f.from < length text
failed_part r f e p h = omega (arith, p.some, part_within p, rw e at h)

-- ---- the loop

-- on a sound box before the script's rest from `at` on, what is left of the sheet is the lines of that rest
pub record Going (p : Profile) (script : List ℕ) (t : Tables) (at total : ℕ) : Type 0 where
  pub sound : Sound t 1024
  pub rest : drop total (sheet (box_of p) script) ≡ lines_of (box_of p) t (drop at script)
  pub within : total ≤ length (sheet (box_of p) script)
  pub small : total ≤ 23 + 65536 * at

-- a fresh box and zeros
pub begins : (p : Profile) (script : List ℕ) (head : ℕ) {b : BoxRecord} {log : List LogRow} {escrow : List EscrowRow} → b ≡ fresh_tables.box
    → log ≡ fresh_tables.log_rows → escrow ≡ fresh_tables.escrow_rows → length script ≤ 65536 → head ≡ length header
    → Going p script (lent_tables b log escrow (replicate 4096 0) (replicate 1024 0) (replicate 4096 0) (replicate 4096 0)) 0 head
unfolding fresh_tables header bytes_of sheet
begins p script head e1 e2 e3 h e =
    rw (e1, e2, e3)
    (record {
      sound = fresh_box.sound;
      rest = rw (le-ltb 65536 (length script) h) (drop_at header (lines_of (box_of p) fresh_tables script) head (sym e));
      within = rw (le-ltb 65536 (length script) h) (omega (arith, e, length-append header (lines_of (box_of p) fresh_tables script)));
      small = rw e (omega arith);
    })

pub size_fits : {defined : Turn} {made : Tables} {rest : List ℕ} {done : ℕ} {before after : List ℕ} {size : ℕ}
    → TurnMade defined made rest done before after size → size ≤ length after
size_fits m = omega (arith, m.front.fits, front_length m.front)

-- the header
pub head_part : (p : Profile) (script : List ℕ) {printed : ℕ} {bytes : List ℕ} → printed ≡ 0 → bytes ≡ header → NextPart (sheet (box_of p) script) printed bytes
unfolding sheet header bytes_of
head_part p script e1 e2 = rw (e1, e2) (part_of header _ refl (omega arith))

-- the line for too long a script, and its end
module _ (p : Profile) (script : List ℕ) (long : 65536 < length script) {printed : ℕ} {bytes : List ℕ} (e1 : printed ≡ length header)
    (e2 : bytes ≡ too_long) where
  too_long_lem : sheet (box_of p) script ≡ header ++ too_long
  unfolding sheet
  too_long_lem = rw (lt-ltb 65536 (length script) long)

  pub too_long_part : NextPart (sheet (box_of p) script) printed bytes
  unfolding too_long bytes_of
  too_long_part =
      rw (e1, e2) (part_of too_long [] (rw too_long_lem (drop_at header too_long (length header) refl)) (omega arith))

  pub too_long_last : printed + length bytes ≡ length (sheet (box_of p) script)
  too_long_last = rw (e1, e2, too_long_lem) (sym (length-append header too_long))

module _ {p : Profile} {script : List ℕ} {t : Tables} {at total : ℕ} (g : Going p script t at total) where
  left_over : length (sheet (box_of p) script) ≡ total + length (lines_of (box_of p) t (drop at script))
  left_over = omega (arith, g.within, ap length g.rest, length-drop total (sheet (box_of p) script))

  pub done_with : length script ≤ at → total ≡ length (sheet (box_of p) script)
  unfolding lines_of records_from answers_from flat
  done_with h = omega (arith, rw (drop_of_length-le script h) at left_over)

  module _ (left : at < length script) where
    -- turns that the code made on `&script[at..]`
    module _ {made : Tables} {before after : List ℕ} {done size : ℕ}
        (turned : TurnMade (turns (box_of p) (length before) t (take (length script - at) (drop at script))) made (take (length script - at) (drop at script)) done before after size)
        (room-is : length before ≡ 65536) where
      abbrev defined : Turn
      defined = turns (box_of p) (length before) t (drop at script)

      same : TurnMade defined made (drop at script) done before after size
      same = rw (to_the_end script at) at turned

      some_left : 0 < length (drop at script)
      some_left = omega (arith, length-drop at script)

      abbrev goes_on : GoesOn defined (drop at script)
      goes_on = turns_go_on p (length before) t (drop at script) g.sound some_left (omega arith)

      abbrev writes : Writes (box_of p) defined t (drop at script)
      writes = turns_write p (length before) t (drop at script) g.sound

      text : take size after ≡ defined.text
      text = front_text same.front

      lines : drop total (sheet (box_of p) script) ≡ take size after ++ lines_of (box_of p) made (drop (at + done) script)
      lines = rw (text, same.same, ← drop-drop done at script, same.rest_left) (g.rest ∙ writes.lines)

      pub next_part : NextPart (sheet (box_of p) script) total (take size after)
      next_part = part_of (take size after) _ lines (rw text goes_on.some)

      -- lines are no longer than their buffer
      pub short : size ≤ 65536
      short = omega (arith, turned.front.fits)

      pub fits : length script ≤ 65536 → total + length (take size after) < 2 ^ 64
      fits h = omega (arith, g.small, short, length-take size after)

      pub within_script : at + done ≤ length script
      within_script = omega (arith, same.within, length-drop at script)

      pub further : 0 < done
      further = omega (arith, goes_on.less, ap length same.rest_left, length-drop done (drop at script))

      pub went_further : {next : ℕ} → next ≡ total + length (take size after) → Going p script made (at + done) next
      went_further {next} n =
          record {
            sound = rw same.same writes.sound;
            rest =
                rw (n, ← drop-drop (length (take size after)) total (sheet (box_of p) script), lines)
                (drop_at (take size after) _ (length (take size after)) refl);
            within = omega (arith, n, part_within next_part);
            small = omega (arith, n, g.small, further, short, length-take size after);
          }
