-- A written record is read back, and a record that reads to a call is what is written for it. Assumes nothing.
use Prim.Native.Nat.{ℕ, suc, ◌+◌, ◌-◌, ◌^◌, ◌<◌}
use mathlib.Core.Path.{◌≡◌, refl, sym, ap, ◌∙◌}
use mathlib.Core.Bool.{Bool, true, false, cond, ◌||◌}
use mathlib.Core.List.{List, [], ◌∷◌, ◌++◌}
use mathlib.Core.Option.{Option, none, some}
use native.Mathlib.Omega.{arith}
use lib.Dec.{eqb, ltb}
use lib.ListN.{length, take, drop, length-append}
use lib.Seq.{take_at}
use borrow.Author.Tests.{eq-eqb, eqb-true, ltb-false}
use Rattle.record.specs.declared.Fields.{Fields}
use Rattle.record.specs.Call.{Call}
use Rattle.record.specs.Layout.{Kind, stands, kind_of}
use Rattle.record.specs.Read.{whole, cut, unknown, wrong_map, read, after_map, read_kind, read_fields}
use Rattle.record.specs.Write.{Filled, only, record_of, filled, record_in, write, refused_write, placed, too_many, write_kind, write_on}
use Rattle.record.specs.Statements.{Fit, Fits, NumbersFit, ReadsBack, WriterReadsBack, OneRecord}
use Rattle.record.proofs.FieldLaws.{field_bytes, kept, fields_back, fields_from, by_cases, not_refused}
use Rattle.record.proofs.KindRows.{Row, row_of, made, written}

front : (k : Kind) (f : Fields) (v : List ℕ) → record_of k f v ≡ k.map ∷ k.number ∷ field_bytes k f v
unfolding record_of field_bytes
front k f v = refl

module _ (k : Kind) (row : Row k) (f : Fields) (v : List ℕ) where
  read_record : (rest : List ℕ) → Fit f v
      → read (record_of k f v ++ rest)
      ≡ whole (k.call (kept k.map f) (only (stands k.map 6) v)) (length (record_of k f v))
  unfolding read after_map read_kind read_fields
  read_record rest fit =
      let bs = field_bytes k f v in
      let sum = length-append bs rest in
      let used : 1 + suc (length (bs ++ rest)) - length rest ≡ suc (suc (length bs)) = omega arith in
      rw (front k f v, row.first, row.found, eq-eqb k.map _ refl) (fields_back k f v _ rest fit ∙ rw used)

pub reads_back : ReadsBack
unfolding ReadsBack write record_in
reads_back c fit rest =
    let (k, found, same) = made c fit.way in
    let row = (row_of found).0 in
    let own = sym (row.fills (filled c).fields (filled c).bytes) ∙ ap filled same in
    rw found
    (read_record k row _ _ rest fit.fields
    ∙ rw (ap (λ (x : Filled). x.fields) own, ap (λ (x : Filled). x.bytes) own, same))

-- what the writer accepts fits: numbers that the map lacks are 0, and too many bytes are refused
cond_less : (b : Bool) (x n : ℕ) → 0 < n → x < n → cond b x 0 < n
cond_less true x n z h = h
cond_less false x n z h = z

kept_fits : (map : ℕ) (f : Fields) (v : List ℕ) → NumbersFit f → too_many map (length v) ≡ false → Fit (kept map f) (only (stands map 6) v)
unfolding kept only
kept_fits map f v h few =
    record {
      place = cond_less (stands map 1) f.place 256 (omega arith) h.place;
      identity = cond_less (stands map 2) f.identity (2 ^ 64) (omega arith) h.identity;
      offset = cond_less (stands map 3) f.offset 65536 (omega arith) h.offset;
      size = cond_less (stands map 4) f.length 65536 (omega arith) h.size;
      number = cond_less (stands map 5) f.number (2 ^ 64) (omega arith) h.number;
      count =
          by_cases (stands map 6)
          (λ t. rw t (omega (arith, ltb-false 65535 (length v) (rw t at few))))
          (λ t. rw t (omega arith));
    }

-- whichever refuses, the code is not 0
accepted_write : (a b : Bool) (r buffer : List ℕ) → (cond (a || b) (refused_write 17 buffer) (placed r buffer)).code ≡ 0
    → (a ≡ false) × (cond (a || b) (refused_write 17 buffer) (placed r buffer) ≡ placed r buffer)
unfolding refused_write
accepted_write true b r buffer e = absurd (omega (arith, e))
accepted_write false true r buffer e = absurd (omega (arith, e))
accepted_write false false r buffer e = (refl, refl)

pub writer_reads_back : WriterReadsBack
unfolding WriterReadsBack ReadsBack write_on write_kind placed
writer_reads_back n k f v buffer found fit e =
    let c = k.call f v in
    let (few, is) = accepted_write (too_many k.map (length v)) (ltb (length buffer) (length (write c))) (write c) buffer (rw found at e) in
    let row = (row_of found).0 in
    let fits : Fits c = record { fields = rw (row.fills f v) (kept_fits k.map f v fit few); way = row.way f v } in
    rw (found, is) (reads_back c fits (drop (length (write c)) buffer))

kind_known : {P : Type 0} (total map : ℕ) (o : Option Kind) (bs : List ℕ) {c : Call} {used : ℕ}
    → read_kind total map o bs ≡ whole c used
    → ((k : Kind) → o ≡ some k → k.map ≡ map → read_fields total k bs ≡ whole c used → P)
    → P
unfolding read_kind unknown wrong_map
kind_known total map none bs e go = not_refused e
kind_known total map (some k) bs e go =
    by_cases (eqb k.map map) (λ t. go k refl (eqb-true _ _ t) (rw t at e)) (λ t. not_refused (rw t at e))

-- what was read whole begins with the map and the number of a kind
kind_from : {P : Type 0} (bs : List ℕ) {c : Call} {used : ℕ}
    → read bs ≡ whole c used
    → ((k : Kind) (bs' : List ℕ) → Row k → bs ≡ k.map ∷ k.number ∷ bs' → read_fields (length bs) k bs' ≡ whole c used → P)
    → P
unfolding read after_map unknown cut
kind_from [] e go = not_refused e
kind_from (map ∷ []) e go = by_cases (stands map 0) (λ t. not_refused (rw t at e)) (λ t. not_refused (rw t at e))
kind_from (map ∷ (n ∷ bs)) e go =
    by_cases (stands map 0)
    (λ t.
    kind_known _ map (kind_of n) bs (rw t at e) λ k found same e'.
    let (row, number) = row_of found in
    let total : 1 + suc (length bs) ≡ suc (suc (length bs)) = omega arith in
    go k bs row (rw (same, number)) (rw total at e'))
    (λ t. not_refused (rw t at e))

pub one_record : OneRecord
unfolding OneRecord read_fields
one_record bs c used h e =
    kind_from bs e λ k bs' row split e'.
    fields_from k (λ i l. rw split at h (suc (suc i)) (omega arith)) e' λ f v rest b e''.
    let call : k.call f v ≡ c = cc in
    let left : length bs - length rest ≡ used = cc in
    let bytes : bs ≡ record_of k f v ++ rest = rw (front k f v, split, b.split) in
    let sum = ap length bytes ∙ length-append (record_of k f v) rest in
    let l : length (record_of k f v) ≡ length bs - length rest = omega arith in
    rw (← call, ← left)
    (record {
      within = omega arith;
      fits = record { fields = rw (row.fills f v, b.absent, b.absent_bytes) b.fit; way = row.way f v };
      same =
          ap (take (length bs - length rest)) bytes
          ∙ take_at _ rest _ l
          ∙ sym (written k row f v);
    })
