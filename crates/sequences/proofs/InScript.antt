-- A record that is read whole is read alike with more behind it, and so a sequence is a script. Assumes nothing.
use Prim.Native.Nat.{ℕ, suc, ◌+◌, ◌-◌, ◌<◌}
use mathlib.Core.Path.{◌≡◌, refl, sym, ap, ◌∙◌}
use mathlib.Core.Bool.{Bool, true, false}
use mathlib.Core.List.{List, [], ◌∷◌, ◌++◌}
use mathlib.Core.Option.{Option, none, some}
use native.Mathlib.Omega.{arith}
use lib.ListN.{length, get_or, take, drop, length-append}
use lib.Seq.{take-append-le, drop-append-le, drop-append_seam}
use lib.Dec.{eqb, ltb}
use borrow.Author.Tests.{ltb-false, le-ltb}
use Rattle.record.specs.declared.Fields.{Fields}
use Rattle.record.specs.Call.{Call}
use Rattle.record.specs.Layout.{Kind, stands, kind_of}
use Rattle.record.specs.Read.{Reading, refused, whole, read, cut, unknown, wrong_map, from_little, contents, field, bytes_field, fields, read_fields, read_kind, after_map}
use Rattle.ideal.specs.Step.{step_on_by}
use Rattle.ideal.specs.Tables.{Tables, fresh_tables, flat}
use Rattle.ideal.specs.Box.{given, box_by, call_on, answers_from}
use Rattle.sheet.specs.Records.{behind, left_after, records_from, records_of}
use Rattle.sequences.specs.Listing.{calls_of}
use Rattle.sequences.specs.Listed.{WholeRecord, WholeRecords, ReadsInScript, script_of, SequenceIsScript}
use Rattle.lists.proofs.Bools.{by_cases}
use Rattle.sheet.proofs.Scripts.{record_by_record}

refused_whole : {P : Type 0} {code number used : ℕ} {c : Call} → refused code number ≡ whole c used → P
refused_whole e = let z : ◌≡◌ {A = ℕ} 0 1 = cc in absurd (omega arith)

module _ (more : List ℕ) (c : Call) (used : ℕ) where
  -- where the one reads this call, so does the other with more behind
  abbrev Ext : {A : Type 0} → (A → List ℕ → Reading) → (A → List ℕ → Reading) → Type 0
  Ext {A} f g = (a : A) (rest : List ℕ) → f a rest ≡ whole c used → g a (rest ++ more) ≡ whole c used

  contents_more : (n : ℕ) (f g : List ℕ → List ℕ → Reading) → Ext f g → (bs : List ℕ) → contents n f bs ≡ whole c used
      → contents n g (bs ++ more) ≡ whole c used
  unfolding contents cut
  contents_more n f g x bs h =
      by_cases (ltb (length bs) n)
      (λ e. refused_whole (rw e at h))
      (λ e.
      let l = ltb-false (length bs) n e in
      let a = length-append bs more in
      rw (le-ltb (length (bs ++ more)) n (omega arith), take-append-le n bs more l, drop-append-le n bs more l)
      (x (take n bs) (drop n bs) (rw e at h)))

  field_more : (here : Bool) (n : ℕ) (f g : ℕ → List ℕ → Reading) → Ext f g → (bs : List ℕ) → field here n f bs ≡ whole c used
      → field here n g (bs ++ more) ≡ whole c used
  unfolding field
  field_more false n f g x bs h = x 0 bs h
  field_more true n f g x bs h = contents_more n (λ v. f (from_little v)) (λ v. g (from_little v)) (λ v. x (from_little v)) bs h

  bytes_more : (here : Bool) (f g : List ℕ → List ℕ → Reading) → Ext f g → (bs : List ℕ) → bytes_field here f bs ≡ whole c used
      → bytes_field here g (bs ++ more) ≡ whole c used
  unfolding bytes_field
  bytes_more here f g x bs h = field_more here 2 (λ n. contents n f) (λ n. contents n g) (λ n. contents_more n f g x) bs h

  fields_more : (map : ℕ) (f g : Fields → List ℕ → List ℕ → Reading) → ((a : Fields) → Ext (f a) (g a)) → (bs : List ℕ)
      → fields map f bs ≡ whole c used → fields map g (bs ++ more) ≡ whole c used
  unfolding fields
  fields_more map f g x =
      field_more (stands map 1) 1 _ _ λ p.
      field_more (stands map 2) 8 _ _ λ i.
      field_more (stands map 3) 2 _ _ λ o.
      field_more (stands map 4) 2 _ _ λ n.
      field_more (stands map 5) 8 _ _ λ y.
      bytes_more (stands map 6) _ _ (x _)

  kind_more : (total map : ℕ) (k : Option Kind) (bs : List ℕ) → read_kind total map k bs ≡ whole c used
      → read_kind (total + length more) map k (bs ++ more) ≡ whole c used
  unfolding read_kind read_fields unknown wrong_map
  kind_more total map none bs h = refused_whole h
  kind_more total map (some k) bs h =
      by_cases (eqb k.map map)
      (λ e.
      rw e
      (fields_more k.map _ _
      (λ f v rest q.
      let a = length-append rest more in
      let s : total + length more - length (rest ++ more) ≡ total - length rest = omega arith in
      rw s q)
      bs (rw e at h)))
      (λ e. refused_whole (rw e at h))

  after_more : (total map : ℕ) (bs : List ℕ) → after_map total map bs ≡ whole c used
      → after_map (total + length more) map (bs ++ more) ≡ whole c used
  unfolding after_map cut
  after_more total map [] h = refused_whole h
  after_more total map (n ∷ bs) h = kind_more total map (kind_of n) bs h

  read_more : (r : List ℕ) → read r ≡ whole c used → read (r ++ more) ≡ whole c used
  unfolding read cut unknown
  read_more [] h = refused_whole h
  read_more (map ∷ bs) h =
      by_cases (stands map 0)
      (λ e.
      let a = length-append bs more in
      let n : 1 + length (bs ++ more) ≡ 1 + length bs + length more = omega arith in
      rw (e, n) (after_more (1 + length bs) map bs (rw e at h)))
      (λ e. refused_whole (rw e at h))

pub reads_in_script : ReadsInScript
reads_in_script r more c used h = read_more more c used r h

-- ---- a sequence is a script

-- a box looks at bytes by its reader alone
same_reading : (t : Tables) (size : ℕ) (a b : List ℕ) → read a ≡ read b → call_on t (given a size) ≡ call_on t (given b size)
unfolding box_by step_on_by
same_reading t size a b h = rw h

-- a whole record with more behind it
module _ (r more : List ℕ) (w : WholeRecord r) where
  alike : read (r ++ more) ≡ whole w.call (length r)
  alike = read_more more w.call (length r) r w.reads

  same_call : (t : Tables) (size : ℕ) → call_on t (given r size) ≡ call_on t (given (r ++ more) size)
  same_call t size = same_reading t size r (r ++ more) (w.reads ∙ sym alike)

  left_behind : left_after (r ++ more) ≡ more
  unfolding behind
  left_behind = rw (alike, drop-append_seam r more)

-- the sheet parts a whole record from what is behind it; one of no bytes is none, for it is refused with 1
first_record : (size : ℕ) (r more : List ℕ) → WholeRecord r
    → records_of size (r ++ more) ≡ given (r ++ more) size ∷ records_of size more
unfolding read cut
first_record size [] more w = refused_whole w.reads
first_record size (b ∷ bs) more w =
    record_by_record size b (bs ++ more) ∙ ap (λ l. given (b ∷ bs ++ more) size ∷ records_of size l) (left_behind (b ∷ bs) more w)

module _ (rs : List (List ℕ)) (wholes : WholeRecords rs) where
  -- from any tables, so that it passes from call to call
  from_tables : (s : List ℕ) → ((k : ℕ) → k < length s → get_or s k 0 < length rs) → (t : Tables)
      → answers_from call_on t (calls_of rs s) ≡ answers_from call_on t (records_of 1024 (script_of rs s))
  unfolding answers_from calls_of script_of flat records_from
  from_tables [] h t = refl
  from_tables (i ∷ s) h t =
      let r = get_or rs i [] in
      let w = wholes i (h 0 (omega arith)) in
      rw (first_record 1024 r (script_of rs s) w, ← same_call r (script_of rs s) w t 1024)
      (ap (λ l. (call_on t (given r 1024)).answer ∷ l)
      (from_tables s (λ k b. h (suc k) (omega arith)) (call_on t (given r 1024)).tables))

pub sequence_is_script : SequenceIsScript
sequence_is_script rs s wholes h = from_tables rs wholes s h fresh_tables
