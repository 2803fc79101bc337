-- Request P10: which buffers hold records, and each answer number exactly when. Assumes nothing.
use Prim.Native.Nat.{ℕ, zero, suc, ◌+◌, ◌*◌, ◌-◌, ◌≤◌, ◌<◌}
use mathlib.Core.Path.{◌≡◌, refl, sym, ap, ◌∙◌, subst}
use mathlib.Core.Logic.{◌↔◌}
use mathlib.Core.Bool.{Bool, true, false≢true}
use mathlib.Core.List.{List, [], ◌∷◌, ◌++◌}
use mathlib.Core.Option.{Option, none, some}
use native.Mathlib.Omega.{arith}
use lib.ListN.{length, get_or, take, drop, length-append, take-append-drop, length-take, length-drop, get_or-append}
use lib.Seq.{take_at, drop_at, get_or-append-add, get_or-drop}
use lib.Dec.{ltb}
use borrow.Author.Tests.{ltb-true, ltb-false, le-ltb, eqb-true, eq-eqb}
use Rattle.record.specs.Read.{Reading, refused, whole, from_little, read}
use Rattle.ideal.specs.State.{every}
use Rattle.ideal.specs.Tables.{Tables, flat}
use Rattle.ideal.specs.Box.{Element, Result}
use Rattle.sequences.specs.Listing.{with_first, records_in, is_whole, only_whole, records_listed, listed, ListResult, not_listed, placed_list, list_from, list_on}
use Rattle.sequences.specs.Listed.{Holds, nothing_left, counted, WholeRecord, Listable, Stands, Unlisted, AnswersLists}
use Rattle.lists.proofs.Bools.{by_cases, and_true}
use Rattle.lists.proofs.Lists.{every_at}
use Rattle.sequences.proofs.Ordered.{lists_every}
use Rattle.sequences.proofs.Flat.{OfLength, flat_length, flat_within, flat_at}

some_is : {A : Type 0} {a b : A} → some a ≡ some b → a ≡ b
some_is e = cc

none_some : {A P : Type 0} {a : A} → none ≡ some a → P
none_some e = let z : ◌≡◌ {A = ℕ} 0 1 = cc in absurd (omega arith)

-- ---- from records to the buffer

holds_in : {bs : List ℕ} {rs : List (List ℕ)} → Holds bs rs → (most : ℕ) → length rs ≤ most → records_in most bs ≡ some rs
unfolding records_in with_first
holds_in nothing_left zero l = refl
holds_in nothing_left (suc most) l = refl
holds_in (counted (a ∷ b ∷ []) r c e h) zero l = absurd (omega arith)
holds_in (counted {bs = bs} (a ∷ b ∷ []) r c e h) (suc most) l =
    let n = length-append r bs in
    let size = from_little (a ∷ b ∷ []) in
    let fits = le-ltb (suc (suc (length (r ++ bs)))) (2 + size) (omega arith) in
    let t = take_at r bs size (sym e) in
    let d = drop_at r bs size (sym e) in
    let q = holds_in h most (omega arith) in
    rw (fits, t, d, q)
holds_in (counted [] r c e h) most l = absurd (omega arith)
holds_in (counted (a ∷ []) r c e h) most l = absurd (omega arith)
holds_in (counted (a ∷ b ∷ d ∷ cs) r c e h) most l = absurd (omega arith)

-- ---- from the buffer to its records

record Held (bs : List ℕ) (most : ℕ) (rs : List (List ℕ)) : Type 0 where
  holds : Holds bs rs
  few : length rs ≤ most

with_first_lem : (most : ℕ) (count r bs : List ℕ) (o : Option (List (List ℕ))) (rs : List (List ℕ)) → length count ≡ 2
    → from_little count ≡ length r → ((qs : List (List ℕ)) → o ≡ some qs → Held bs most qs) → with_first r o ≡ some rs
    → Held (count ++ (r ++ bs)) (suc most) rs
unfolding with_first
with_first_lem most count r bs none rs c e f h = none_some h
with_first_lem most count r bs (some qs) rs c e f h =
    let k = f qs refl in
    let w = k.few in
    subst (λ x. Held (count ++ (r ++ bs)) (suc most) x) (some_is h)
    (record { holds = counted count r c e k.holds; few = omega arith })

in_holds : (most : ℕ) (bs : List ℕ) (rs : List (List ℕ)) → records_in most bs ≡ some rs → Held bs most rs
unfolding records_in
in_holds zero [] rs h = subst (λ x. Held [] 0 x) (some_is h) (record { holds = nothing_left; few = omega arith })
in_holds zero (b ∷ bs) rs h = none_some h
in_holds (suc most) [] rs h = subst (λ x. Held [] (suc most) x) (some_is h) (record { holds = nothing_left; few = omega arith })
in_holds (suc most) (b ∷ bs) rs h =
    let l = b ∷ bs in
    let size = from_little (take 2 l) in
    by_cases (ltb (length l) (2 + size))
    (λ e. none_some (rw e at h))
    (λ e.
    let fits = ltb-false (length l) (2 + size) e in
    let rest = drop 2 l in
    let a = take-append-drop 2 l in
    let c = take-append-drop size rest in
    let n : length (take 2 l) ≡ 2 = simp length-take (omega arith) in
    let d : length rest + 2 ≡ length l = simp length-drop (omega arith) in
    let m : size ≡ length (take size rest) = simp length-take (omega arith) in
    let k =
    with_first_lem most (take 2 l) (take size rest) (drop size rest) (records_in most (drop size rest)) rs n m
    (λ qs q. in_holds most (drop size rest) qs q) (rw e at h) in
    subst (λ x. Held x (suc most) rs) (ap (λ y. take 2 l ++ y) c ∙ a) k)

-- ---- 27

-- every_at the other way
at_every : {A : Type 0} (p : A → Bool) (d : A) (l : List A) → ((k : ℕ) → k < length l → p (get_or l k d) ≡ true) → every p l ≡ true
unfolding every
at_every p d [] h = refl
at_every p d (a ∷ l) h = and_true (p a) _ (h 0 (omega arith)) (at_every p d l (λ k b. h (suc k) (omega arith)))

-- the test of one record
abbrev wholes : List ℕ → Bool
wholes r = is_whole (length r) (read r)

whole_tested : (r : List ℕ) → WholeRecord r → wholes r ≡ true
unfolding is_whole
whole_tested r w = rw w.reads (eq-eqb (length r) (length r) refl)

tested_whole : (r : List ℕ) (x : Reading) → read r ≡ x → is_whole (length r) x ≡ true → WholeRecord r
unfolding is_whole
tested_whole r (refused code number) e h = absurd (false≢true h)
tested_whole r (whole c used) e h = record { call = c; reads = e ∙ ap (whole c) (eqb-true used (length r) h) }

listable_some : (records : List ℕ) (rs : List (List ℕ)) → Listable records rs → records_listed records ≡ some rs
unfolding records_listed only_whole
listable_some records rs l =
    let few = l.few in
    let e = at_every wholes [] rs (λ k b. whole_tested (get_or rs k []) (l.wholes k b)) in
    rw (holds_in l.holds 6 (omega arith), e)

some_listable : (records : List ℕ) (o : Option (List (List ℕ))) → records_in 6 records ≡ o → (rs : List (List ℕ))
    → only_whole o ≡ some rs → Listable records rs
unfolding only_whole
some_listable records none q rs h = none_some h
some_listable records (some qs) q rs h =
    by_cases (every wholes qs)
    (λ e.
    let k = in_holds 6 records qs q in
    let few = k.few in
    subst (λ x. Listable records x) (some_is (rw e at h))
    (record {
      holds = k.holds;
      few = omega arith;
      wholes = λ i b. tested_whole (get_or qs i []) (read (get_or qs i [])) refl (every_at wholes qs [] i e b);
    }))
    (λ e. none_some (rw e at h))

-- ---- the answer on records that are listed from

-- bytes put at the front of a buffer alter none beyond them
beyond_front : (bs list : List ℕ) (i : ℕ) → length bs ≤ i → get_or (bs ++ drop (length bs) list) i 0 ≡ get_or list i 0
beyond_front bs list i h =
    let n = length bs in
    let q : i ≡ n + (i - n) = omega arith in
    ap (λ j. get_or (bs ++ drop n list) j 0) q ∙ get_or-append-add bs (drop n list) (i - n) 0 ∙ get_or-drop n list (i - n) 0
    ∙ ap (λ j. get_or list j 0) (sym q)

module _ (box : Tables → Element → Result) (rs : List (List ℕ)) (n : ℕ) (list : List ℕ) where
  -- the sequences that are to stand in the buffer
  abbrev found : List (List ℕ)
  found = listed box rs n

  -- one of three answers, by n and by the size of the list
  data Answered : ListResult → Type 0 where
    above : 4 < n → Answered (not_listed 28 list)
    exceeds : n ≤ 4 → length list < length found * n → Answered (not_listed 29 list)
    fits : n ≤ 4 → length found * n ≤ length list
        → Answered (record { code = 0; number = length found; list = flat found ++ drop (length (flat found)) list })

  listed_of_length : OfLength n found
  listed_of_length j h = (((lists_every box rs n).exactly (get_or found j [])).0 (record { index = j; within = h; is = refl })).count

  answered : Answered (list_from box (some rs) n list)
  unfolding list_from placed_list
  answered =
      let size = flat_length n found listed_of_length in
      by_cases (ltb 4 n)
      (λ e. rw e (above (ltb-true 4 n e)))
      (λ e.
      let few = ltb-false 4 n e in
      by_cases (ltb (length list) (length (flat found)))
      (λ f. let less = ltb-true (length list) (length (flat found)) f in rw (e, f) (exceeds few (omega arith)))
      (λ f. let room = ltb-false (length list) (length (flat found)) f in rw (e, f) (fits few (omega arith))))

  not_twenty_seven : {r : ListResult} → Answered r → r.code ≡ 27 → ⊥
  unfolding not_listed
  not_twenty_seven (above a) h = omega arith
  not_twenty_seven (exceeds a b) h = omega arith
  not_twenty_seven (fits a b) h = omega arith

  when_above : {r : ListResult} → Answered r → (r.code ≡ 28) ↔ (4 < n)
  unfolding not_listed
  when_above (above a) = ((λ h. a), (λ h. refl))
  when_above (exceeds a b) = ((λ h. absurd (omega arith)), (λ h. absurd (omega arith)))
  when_above (fits a b) = ((λ h. absurd (omega arith)), (λ h. absurd (omega arith)))

  when_exceeds : {r : ListResult} → Answered r → n ≤ 4 → (r.code ≡ 29) ↔ (length list < length found * n)
  unfolding not_listed
  when_exceeds (above a) l = absurd (omega arith)
  when_exceeds (exceeds a b) l = ((λ h. b), (λ h. refl))
  when_exceeds (fits a b) l = ((λ h. absurd (omega arith)), (λ h. absurd (omega arith)))

  when_fits : {r : ListResult} → Answered r → n ≤ 4 → length found * n ≤ length list → Stands found n list r
  when_fits (above a) l f = absurd (omega arith)
  when_fits (exceeds a b) l f = absurd (omega arith)
  when_fits (fits a b) l f =
      let bs = flat found in
      let s = flat_length n found listed_of_length in
      record {
        code = refl;
        number = refl;
        size = simp (length-append, length-drop) (omega arith);
        index = λ j k h g.
            let w = flat_within n j k (length found) h g in
            get_or-append bs (drop (length bs) list) 0 (j * n + k) (omega arith) ∙ flat_at n found listed_of_length j k h g;
        beyond = λ i h. beyond_front bs list i (omega arith);
      }

  when_refused : {r : ListResult} → Answered r → (r.code ≡ 0 → ⊥) → Unlisted list r
  unfolding not_listed
  when_refused (above a) h = record { number = refl; list = refl }
  when_refused (exceeds a b) h = record { number = refl; list = refl }
  when_refused (fits a b) h = absurd (h refl)

-- ---- each number

module _ (box : Tables → Element → Result) (records : List ℕ) (n : ℕ) (list : List ℕ) where
  answered_on : (rs : List (List ℕ)) → Listable records rs → Answered box rs n list (list_on box records n list)
  unfolding list_on
  answered_on rs l = rw (listable_some records rs l) (answered box rs n list)

  not_listable : (o : Option (List (List ℕ))) → records_listed records ≡ o → ((rs : List (List ℕ)) → Listable records rs → ⊥)
      → (list_from box o n list).code ≡ 27
  unfolding list_from not_listed records_listed
  not_listable none q f = refl
  not_listable (some rs) q f = absurd (f rs (some_listable records (records_in 6 records) refl rs q))

  refused_from : (o : Option (List (List ℕ))) → ((list_from box o n list).code ≡ 0 → ⊥) → Unlisted list (list_from box o n list)
  unfolding list_from not_listed
  refused_from none h = record { number = refl; list = refl }
  refused_from (some rs) h = when_refused box rs n list (answered box rs n list) h

pub answers_lists : (box : Tables → Element → Result) → AnswersLists box
unfolding list_on
answers_lists box records n list =
    let on = answered_on box records n list in
    record {
      twenty_seven = (
        (λ h rs l. not_twenty_seven box rs n list (on rs l) h),
        not_listable box records n list (records_listed records) refl,
      );
      twenty_eight = λ rs l. when_above box rs n list (on rs l);
      twenty_nine = λ rs l. when_exceeds box rs n list (on rs l);
      stands = λ rs l. when_fits box rs n list (on rs l);
      refused = refused_from box records n list (records_listed records);
    }
