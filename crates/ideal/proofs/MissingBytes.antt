-- The number of a refusal with 1: it is never 0, and it is the bytes that finish the field being read. Of every box that
-- gives each number when it is due, with the answer number of it. Assumes nothing.
use Prim.Native.Nat.{ℕ, zero, suc, ◌+◌, ◌-◌, ◌≤◌, ◌<◌}
use mathlib.Core.Path.{◌≡◌, refl, sym, ap, ◌∙◌}
use mathlib.Core.Bool.{Bool, true, false, not, ◌&&◌, ◌||◌, cond, false≢true}
use mathlib.Core.List.{List, [], ◌∷◌, ◌++◌, append-nil}
use native.Mathlib.Omega.{arith}
use lib.ListN.{length, drop, get_or, length-append, length-drop}
use lib.Seq.{take-append-le, drop-append-le}
use lib.Dec.{eqb, ltb, eqb-suc-zero, eqb-suc-suc}
use borrow.Author.Tests.{ltb-true, ltb-false, lt-ltb, le-ltb, eqb-true, eqb-false, not-true}
use Rattle.record.specs.Layout.{stands, map_of}
use Rattle.record.specs.Read.{read, from_little}
use Rattle.ideal.specs.declared.Profile.{Profile}
use Rattle.ideal.specs.State.{part, any, every}
use Rattle.ideal.specs.Tables.{Tables}
use Rattle.ideal.specs.Soundness.{sizes_right, sound}
use Rattle.ideal.specs.Box.{Element, Result, call_on}
use Rattle.ideal.specs.Refusals.{one_of, width, ends, cut_field, passed, whole_fields, missing, number_at, is_map, reader_conditions, call_conditions, on_call, conditions, followed, EachNumber, RefusalsAlterNothing, NumberOnlyWithOne, MissingIsExact, conditions_by}
use Rattle.lists.proofs.Bools.{by_cases, or_false_left, or_false_right}
use Rattle.ideal.proofs.Conditions.{first_of, first_of_lem}
use Rattle.ideal.proofs.ReaderNumbers.{up_to, missing_is}
use Rattle.ideal.proofs.Numbers.{call_every, call_passes, each_number, refusals_alter_nothing}

-- ---- the ends of the fields

-- an end lies beyond n exactly where it is some way to the first
some_way : (n : ℕ) (es : List ℕ) → any (λ end. ltb n end) es ≡ true → 0 < up_to n es
unfolding any up_to
some_way n [] h = absurd (false≢true h)
some_way n (end ∷ later) h =
    by_cases (ltb n end)
    (λ c. rw c (omega (arith, ltb-true n end c)))
    (λ c. rw c (some_way n later (rw c at h)))

way_some : (n : ℕ) (es : List ℕ) → 0 < up_to n es → any (λ end. ltb n end) es ≡ true
unfolding any up_to
way_some n [] l = absurd (omega arith)
way_some n (end ∷ later) l =
    by_cases (ltb n end)
    (λ c. rw c)
    (λ c. rw c (way_some n later (rw c at l)))

missing_cut : (bs : List ℕ) → 0 < missing bs → cut_field bs ≡ true
unfolding cut_field
missing_cut bs l = way_some (length bs) (ends bs) (rw missing_is at l)

-- es and then one more end, c or d, which are the same where none of es lies beyond n
module _ (n : ℕ) (c d : ℕ) where
  abbrev Agree : List ℕ → Type 0
  Agree es = any (λ end. ltb n end) es ≡ false → c ≡ d

  -- with fewer than so many bytes more, the same end is the first beyond
  short_of : (es : List ℕ) (k : ℕ) → Agree es → k < up_to n (es ++ (c ∷ []))
      → (up_to (n + k) (es ++ (d ∷ [])) + k ≡ up_to n (es ++ (c ∷ []))) × (passed (n + k) (es ++ (d ∷ [])) ≡ passed n (es ++ (c ∷ [])))
  unfolding any up_to passed
  short_of [] k same l =
      by_cases (ltb n c)
      (λ b. let g : k < c - n = rw b at l in
      rw (← same refl, b, lt-ltb (n + k) c (omega arith)) (omega arith, refl))
      (λ b. let g : k < 0 = rw b at l in absurd (omega arith))
  short_of (end ∷ later) k same l =
      by_cases (ltb n end)
      (λ b. let g : k < end - n = rw b at l in rw (b, lt-ltb (n + k) end (omega arith)) (omega arith, refl))
      (λ b.
      let ih = short_of later k (λ f. same (rw b f)) (rw b at l) in
      rw (b, le-ltb (n + k) end (omega (arith, ltb-false n end b))) (ih.0, ap suc ih.1))

  -- with so many bytes more, that end is passed
  reached : (es : List ℕ) (k : ℕ) → Agree es → up_to n (es ++ (c ∷ [])) ≡ k → 0 < k
      → passed n (es ++ (c ∷ [])) < passed (n + k) (es ++ (d ∷ []))
  unfolding any up_to passed
  reached [] k same e l =
      by_cases (ltb n c)
      (λ b. let g : c - n ≡ k = rw b at e in rw (← same refl, b, le-ltb (n + k) c (omega (arith, ltb-true n c b))) (omega arith))
      (λ b. let g : ◌≡◌ {A = ℕ} 0 k = rw b at e in absurd (omega arith))
  reached (end ∷ later) k same e l =
      by_cases (ltb n end)
      (λ b. let g : end - n ≡ k = rw b at e in rw (b, le-ltb (n + k) end (omega (arith, ltb-true n end b))) (omega arith))
      (λ b.
      let ih = reached later k (λ f. same (rw b f)) (rw b at e) l in
      rw (b, le-ltb (n + k) end (omega (arith, ltb-false n end b))) (omega arith))

-- none of them passes the test
none_at : (p : ℕ → Bool) (es : List ℕ) (k : ℕ) → any p es ≡ false → k < length es → p (get_or es k 0) ≡ false
unfolding any
none_at p [] k h l = absurd (omega arith)
none_at p (e ∷ later) zero h l = or_false_left (p e) _ h
none_at p (e ∷ later) (suc k) h l = none_at p later k (or_false_right (p e) _ h) (omega arith)

-- ---- a record of two bytes at least, and what may follow it

module _ (map kind : ℕ) (rest : List ℕ) where
  abbrev bs : List ℕ
  bs = map ∷ kind ∷ rest

  abbrev number_end : ℕ
  number_end =
      2 + width (stands map 1) 1 + width (stands map 2) 8 + width (stands map 3) 2 + width (stands map 4) 2
      + width (stands map 5) 8

  abbrev count_end : ℕ
  count_end = number_end + width (stands map 6) 2

  abbrev contents_end : List ℕ → ℕ
  contents_end all = count_end + width (stands map 6) (from_little (part all number_end 2))

  -- the ends but that of the contents
  abbrev firsts : List ℕ
  firsts =
      let place = 2 + width (stands map 1) 1 in
      let identity = place + width (stands map 2) 8 in
      let offset = identity + width (stands map 3) 2 in
      let size = offset + width (stands map 4) 2 in
      1 ∷ 2 ∷ place ∷ identity ∷ offset ∷ size ∷ number_end ∷ count_end ∷ []

  -- the contents end where they did, unless a field before them is cut
  contents_same : (more : List ℕ) → any (λ end. ltb (length bs) end) firsts ≡ false → contents_end bs ≡ contents_end (bs ++ more)
  unfolding width
  contents_same more f =
      let b = none_at (λ end. ltb (length bs) end) firsts 7 f (omega arith) in
      let l = ltb-false (length bs) count_end b in
      by_cases (stands map 6)
      (λ h.
      let g : number_end + 2 ≤ length bs = rw h at l in
      let there : 2 ≤ length (drop number_end bs) = omega (arith, length-drop number_end bs) in
      rw (h, drop-append-le number_end bs more (omega arith), take-append-le 2 (drop number_end bs) more there))
      (λ h. rw h)

  some_more : (more : List ℕ) → length more < missing bs
      → (missing (bs ++ more) + length more ≡ missing bs) × (whole_fields (bs ++ more) ≡ whole_fields bs)
  unfolding whole_fields ends
  some_more more l =
      rw (missing_is (bs ++ more), missing_is bs, length-append bs more)
      (short_of (length bs) (contents_end bs) (contents_end (bs ++ more)) firsts (length more) (contents_same more) (rw missing_is at l))

  all_more : (more : List ℕ) → length more ≡ missing bs → 0 < missing bs → whole_fields bs < whole_fields (bs ++ more)
  unfolding whole_fields ends
  all_more more e l =
      rw (length-append bs more)
      (reached (length bs) (contents_end bs) (contents_end (bs ++ more)) firsts (length more) (contents_same more) (sym (e ∙ missing_is bs)) (rw e l))

-- ---- the refusal 1

-- the tests of a record of two bytes at least, in their order: ready, bit 0, no such kind, the kind's map, cut; x comes after
tested : (ready bit unknown same cut : Bool) → ℕ → ℕ
tested ready bit unknown same cut x = cond (not ready) 15 (cond (not bit) 2 (cond unknown 2 (cond (not same) 3 (cond cut 1 x))))

-- where these say 1 it is for the cut field, and any other cut field gets 1 too
cut_tested : (ready bit unknown same cut : Bool) (x : ℕ) → (x ≡ 1 → ⊥) → tested ready bit unknown same cut x ≡ 1
    → (cut ≡ true) × ((y : ℕ) → tested ready bit unknown same true y ≡ 1)
unfolding tested
cut_tested false bit unknown same cut x n e = absurd (omega arith)
cut_tested true false unknown same cut x n e = absurd (omega arith)
cut_tested true true true same cut x n e = absurd (omega arith)
cut_tested true true false false cut x n e = absurd (omega arith)
cut_tested true true false true false x n e = absurd (n e)
cut_tested true true false true true x n e = (refl, λ y. refl)

module _ (t : Tables) (size : ℕ) (p : Profile) where
  abbrev given : List ℕ → Element
  given bs = record { bytes = bs; output_size = size; profile = p }

  not_one : (bs : List ℕ) → first_of (on_call t (read bs)) ≡ 1 → ⊥
  unfolding every call_conditions
  not_one bs e = eqb-false _ 1 (not-true _ (call_passes t (λ m. not (eqb m 1)) refl (call_every (λ m. not (eqb m 1)) refl refl t) (read bs))) e

  first_tested : (map kind : ℕ) (rest : List ℕ)
      → let bs : List ℕ = map ∷ kind ∷ rest in
      first_of (conditions t (given bs))
      ≡ tested (sizes_right t size && sound t) (stands map 0) (ltb 16 kind || one_of (0 ∷ 2 ∷ 3 ∷ []) kind) (is_map map (map_of kind)) (cut_field bs)
      (first_of (on_call t (read bs)))
  unfolding conditions_by reader_conditions first_of tested
  first_tested map kind rest =
      let long = length rest in
      rw (eqb-suc-zero (suc long), eqb-suc-suc (suc long) 0, eqb-suc-zero long)

  cut_two : (map kind : ℕ) (rest : List ℕ) → first_of (conditions t (given (map ∷ kind ∷ rest))) ≡ 1
      → (cut_field (map ∷ kind ∷ rest) ≡ true)
      × ((other : List ℕ) → cut_field (map ∷ kind ∷ other) ≡ true → first_of (conditions t (given (map ∷ kind ∷ other))) ≡ 1)
  cut_two map kind rest e =
      let k = cut_tested _ _ _ _ _ _ (not_one (map ∷ kind ∷ rest)) (sym (first_tested map kind rest) ∙ e) in
      (k.0, λ other c. first_tested map kind other ∙ rw c (k.1 _))

  -- 1 misses some bytes
  cut_some : (bs : List ℕ) → first_of (conditions t (given bs)) ≡ 1 → 0 < missing bs
  unfolding up_to ends cut_field
  cut_some [] e = rw missing_is (omega arith)
  cut_some (map ∷ []) e = rw missing_is (omega arith)
  cut_some (map ∷ kind ∷ rest) e = rw missing_is (some_way _ _ (cut_two map kind rest e).0)

  fewer_more : (bs more : List ℕ) → first_of (conditions t (given bs)) ≡ 1 → length more < missing bs
      → (first_of (conditions t (given (bs ++ more))) ≡ 1) × (missing (bs ++ more) + length more ≡ missing bs)
      × (whole_fields (bs ++ more) ≡ whole_fields bs)
  fewer_more bs [] e l = rw (append-nil bs) (e, omega arith, refl)
  fewer_more [] (x ∷ more) e l = absurd (unfold missing in unfold whole_fields in unfold passed in unfold ends in omega arith)
  fewer_more (map ∷ []) (x ∷ more) e l = absurd (unfold missing in unfold whole_fields in unfold passed in unfold ends in omega arith)
  fewer_more (map ∷ kind ∷ rest) (x ∷ more) e l =
      let s = some_more map kind rest (x ∷ more) l in
      let cut = missing_cut (map ∷ kind ∷ (rest ++ (x ∷ more))) (omega (arith, s.0)) in
      ((cut_two map kind rest e).1 (rest ++ (x ∷ more)) cut, s.0, s.1)

  enough_more : (bs more : List ℕ) → first_of (conditions t (given bs)) ≡ 1 → length more ≡ missing bs
      → whole_fields bs < whole_fields (bs ++ more)
  enough_more (map ∷ kind ∷ rest) more e l = all_more map kind rest more l (cut_some (map ∷ kind ∷ rest) e)
  enough_more [] (x ∷ []) e l = unfold whole_fields in unfold passed in unfold ends in omega arith
  enough_more (map ∷ []) (x ∷ []) e l = unfold whole_fields in unfold passed in unfold ends in omega arith
  enough_more [] [] e l = absurd (omega (arith, cut_some [] e))
  enough_more (map ∷ []) [] e l = absurd (omega (arith, cut_some (map ∷ []) e))
  enough_more [] (x ∷ y ∷ more) e l = absurd (unfold missing in unfold whole_fields in unfold passed in unfold ends in omega arith)
  enough_more (map ∷ []) (x ∷ y ∷ more) e l = absurd (unfold missing in unfold whole_fields in unfold passed in unfold ends in omega arith)

-- ---- the statements

module _ (box : Tables → Element → Result) (numbers : EachNumber box) (alters : RefusalsAlterNothing box) where
  -- the bytes that are missing
  number_missing : (t : Tables) (e : Element) → (box t e).answer.code ≡ 1 → (box t e).answer.number ≡ missing e.bytes
  unfolding number_at
  number_missing t e h =
      let some : (box t e).answer.code ≡ 0 → ⊥ = λ z. absurd (omega arith) in
      (alters t e some).number ∙ rw h

  first : (t : Tables) (e : Element) → (box t e).answer.code ≡ 1 → first_of (conditions t e) ≡ 1
  first t e h = (first_of_lem 1 (conditions t e)).1 ((numbers t e 1).0 h)

  pub only_with_one : NumberOnlyWithOne box
  unfolding number_at
  only_with_one t e f = (
    λ h z. omega (arith, number_missing t e h, cut_some t e.output_size e.profile e.bytes (first t e h)),
    λ n. by_cases (eqb (box t e).answer.code 1)
        (λ b. eqb-true _ 1 b)
        (λ b. absurd (n ((alters t e f).number ∙ rw b))),
  )

  pub exact : MissingIsExact box
  exact t e h =
      let n = number_missing t e h in
      let bs = e.bytes in
      record {
        fewer = λ more l.
            let k = fewer_more t e.output_size e.profile bs more (first t e h) (rw n at l) in
            let g = (numbers t (followed e more) 1).1 ((first_of_lem 1 _).0 k.0) in
            (g, omega (arith, number_missing t (followed e more) g, k.1, n), k.2);
        enough = λ more l. enough_more t e.output_size e.profile bs more (first t e h) (l ∙ n);
      }

pub number_only_with_one : NumberOnlyWithOne call_on
number_only_with_one = only_with_one call_on each_number refusals_alter_nothing

pub missing_is_exact : MissingIsExact call_on
missing_is_exact = exact call_on each_number refusals_alter_nothing
