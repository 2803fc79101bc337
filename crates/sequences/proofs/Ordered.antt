-- Request P10: the list has every accepted sequence and no other, in dictionary order. Assumes nothing.
use Prim.Native.Nat.{ℕ, zero, suc, ◌<◌}
use mathlib.Core.Path.{◌≡◌, refl, ap, ◌∙◌, subst}
use mathlib.Core.Logic.{◌⊎◌, inl, inr}
use mathlib.Core.Bool.{true}
use mathlib.Core.List.{List, [], ◌∷◌, ◌++◌, map}
use native.Mathlib.Omega.{arith}
use lib.ListN.{length, get_or, length-map}
use lib.Dec.{eqb}
use borrow.Author.Tests.{eqb-true}
use Rattle.ideal.specs.State.{every}
use Rattle.ideal.specs.Step.{Answer}
use Rattle.ideal.specs.Tables.{Tables, fresh_tables}
use Rattle.ideal.specs.Box.{Element, Result, answers_from}
use Rattle.sequences.specs.Listing.{joined_to, sequences, calls_of, accepts, accepted_of, listed}
use Rattle.sequences.specs.Listed.{Before, lower, later, Among, Accepted, ListsEvery}
use Rattle.lists.proofs.Bools.{by_cases, and_left, and_right, and_true}

-- ---- in a list

data In (s : List ℕ) : List (List ℕ) → Type 0 where
  here : {ss : List (List ℕ)} → In s (s ∷ ss)
  there : {r : List ℕ} {ss : List (List ℕ)} → In s ss → In s (r ∷ ss)

in_among : {s : List ℕ} {ss : List (List ℕ)} → In s ss → Among s ss
in_among here = record { index = 0; within = omega arith; is = refl }
in_among (there i) = let a = in_among i in let w = a.within in record { index = suc a.index; within = omega arith; is = a.is }

at_in : (ss : List (List ℕ)) (k : ℕ) → k < length ss → In (get_or ss k []) ss
at_in [] k h = absurd (omega arith)
at_in (s ∷ ss) zero h = here
at_in (s ∷ ss) (suc k) h = there (at_in ss k (omega arith))

among_in : {s : List ℕ} {ss : List (List ℕ)} → Among s ss → In s ss
among_in {s} {ss} a = subst (λ x. In x ss) a.is (at_in ss a.index a.within)

in_left : {s : List ℕ} (l m : List (List ℕ)) → In s l → In s (l ++ m)
in_left {s = s} [] m x' = elim x' [ ]
in_left (s ∷ l) m here = here
in_left (r ∷ l) m (there i) = there (in_left l m i)

in_right : {s : List ℕ} (l m : List (List ℕ)) → In s m → In s (l ++ m)
in_right [] m i = i
in_right (r ∷ l) m i = there (in_right l m i)

in_split : {s : List ℕ} (l m : List (List ℕ)) → In s (l ++ m) → In s l ⊎ In s m
in_split [] m i = inr i
in_split (r ∷ l) m here = inl here
in_split (r ∷ l) m (there i) = elim (in_split l m i) [ inl a ↦ inl (there a) | inr b ↦ inr b ]

-- ---- joined

joined_in : {s : List ℕ} (m : ℕ) (f : ℕ → List (List ℕ)) (i : ℕ) → i < m → In s (f i) → In s (joined_to m f)
unfolding joined_to
joined_in zero f i h a = absurd (omega arith)
joined_in (suc m) f zero h a = in_left (f 0) _ a
joined_in (suc m) f (suc i) h a = in_right (f 0) _ (joined_in m (λ j. f (suc j)) i (omega arith) a)

record Part (s : List ℕ) (m : ℕ) (f : ℕ → List (List ℕ)) : Type 0 where
  index : ℕ
  below : index < m
  there_in : In s (f index)

in_joined : {s : List ℕ} (m : ℕ) (f : ℕ → List (List ℕ)) → In s (joined_to m f) → Part s m f
unfolding joined_to
in_joined {s = s} zero f a = elim a [ ]
in_joined (suc m) f a =
    elim (in_split (f 0) _ a) [
      | inl b ↦ record { index = 0; below = omega arith; there_in = b }
      | inr b ↦
          let p = in_joined m (λ j. f (suc j)) b in
          let h = p.below in
          record { index = suc p.index; below = omega arith; there_in = p.there_in }
    ]

-- ---- each with an index in front

map_in_lem : {s : List ℕ} (i : ℕ) {ss : List (List ℕ)} → In s ss → In (i ∷ s) (map (λ r. i ∷ r) ss)
map_in_lem i here = here
map_in_lem i (there a) = there (map_in_lem i a)

record Front (s : List ℕ) (i : ℕ) (ss : List (List ℕ)) : Type 0 where
  rest : List ℕ
  is : i ∷ rest ≡ s
  rest_in : In rest ss

in_map : {s : List ℕ} (i : ℕ) (ss : List (List ℕ)) → In s (map (λ r. i ∷ r) ss) → Front s i ss
in_map {s = s} i [] x' = elim x' [ ]
in_map i (r ∷ ss) here = record { rest = r; is = refl; rest_in = here }
in_map i (r ∷ ss) (there a) = let f = in_map i ss a in record { rest = f.rest; is = f.is; rest_in = there f.rest_in }

-- ---- the sequences

record Sequence (m n : ℕ) (s : List ℕ) : Type 0 where
  count : length s ≡ n
  indexes : (k : ℕ) → k < n → get_or s k 0 < m

sequence_in : (m n : ℕ) (s : List ℕ) → Sequence m n s → In s (sequences m n)
unfolding sequences
sequence_in m zero [] q = here
sequence_in m zero (i ∷ s) q = absurd (let c = q.count in omega arith)
sequence_in m (suc n) [] q = absurd (let c = q.count in omega arith)
sequence_in m (suc n) (i ∷ s) q =
    let c = q.count in
    joined_in m (λ j. map (λ r. j ∷ r) (sequences m n)) i (q.indexes 0 (omega arith))
    (map_in_lem i (sequence_in m n s (record { count = omega arith; indexes = λ k h. q.indexes (suc k) (omega arith) })))

in_sequence : (m n : ℕ) (s : List ℕ) → In s (sequences m n) → Sequence m n s
unfolding sequences
in_sequence m zero s (there x4) = elim x4 [ ]
in_sequence m zero s here = record { count = refl; indexes = λ k h. absurd (omega arith) }
in_sequence m (suc n) s a =
    let p = in_joined m (λ j. map (λ r. j ∷ r) (sequences m n)) a in
    let f = in_map p.index (sequences m n) p.there_in in
    let q = in_sequence m n f.rest f.rest_in in
    let b = p.below in
    subst (λ x. Sequence m (suc n) x) f.is
    (record {
      count = ap suc q.count;
      indexes = elim [ zero ↦ λ h. b | suc k ↦ λ h. q.indexes k (omega arith) ];
    })

-- ---- those that are accepted

length_answers : (box : Tables → Element → Result) (t : Tables) (es : List Element) → length (answers_from box t es) ≡ length es
unfolding answers_from
length_answers box t [] = refl
length_answers box t (e ∷ es) = ap suc (length_answers box (box t e).tables es)

codes_of : (l : List Answer) → every (λ a. eqb a.code 0) l ≡ true → (k : ℕ) → k < length l → get_or (map (λ a. a.code) l) k 1 ≡ 0
unfolding every
codes_of [] h k b = absurd (omega arith)
codes_of (a ∷ l) h zero b = eqb-true a.code 0 (and_left (eqb a.code 0) _ h)
codes_of (a ∷ l) h (suc k) b = codes_of l (and_right (eqb a.code 0) _ h) k (omega arith)

of_codes : (l : List Answer) → ((k : ℕ) → k < length l → get_or (map (λ a. a.code) l) k 1 ≡ 0) → every (λ a. eqb a.code 0) l ≡ true
unfolding every
of_codes [] h = refl
of_codes (a ∷ l) h =
    let z = h 0 (omega arith) in
    let y : eqb a.code 0 ≡ true = ap (λ n. eqb n 0) z in
    and_true (eqb a.code 0) _ y (of_codes l (λ k b. h (suc k) (omega arith)))

module _ (box : Tables → Element → Result) (rs : List (List ℕ)) where
  count_answers : (s : List ℕ) → length (answers_from box fresh_tables (calls_of rs s)) ≡ length s
  unfolding calls_of
  count_answers s = length_answers box fresh_tables _ ∙ length-map s _

  in_kept : {s r : List ℕ} {l ss : List (List ℕ)} → (In s l → In s ss × (accepts box rs s ≡ true)) → accepts box rs r ≡ true
      → In s (r ∷ l) → In s (r ∷ ss) × (accepts box rs s ≡ true)
  in_kept f e here = (here, e)
  in_kept f e (there b) = let q = f b in (there q.0, q.1)

  in_accepted : {s : List ℕ} (ss : List (List ℕ)) → In s (accepted_of box rs ss) → In s ss × (accepts box rs s ≡ true)
  unfolding accepted_of
  in_accepted {s = s} [] a = elim a [ ]
  in_accepted (r ∷ ss) a =
      by_cases (accepts box rs r)
      (λ e. in_kept (λ b. in_accepted ss b) e (rw e at a))
      (λ e. let q = in_accepted ss (rw e at a) in (there q.0, q.1))

  accepted_in : {s : List ℕ} (ss : List (List ℕ)) → In s ss → accepts box rs s ≡ true → In s (accepted_of box rs ss)
  unfolding accepted_of
  accepted_in {s = s} [] x'' e = elim x'' [ ]
  accepted_in (s ∷ ss) here e = rw e here
  accepted_in (r ∷ ss) (there a) e =
      let q = accepted_in ss a e in by_cases (accepts box rs r) (λ f. rw f (there q)) (λ f. rw f q)

-- ---- the order

data Rising : List (List ℕ) → Type 0 where
  none : Rising []
  more : {s : List ℕ} {ss : List (List ℕ)} → ((r : List ℕ) → In r ss → Before s r) → Rising ss → Rising (s ∷ ss)

rising_at : {ss : List (List ℕ)} → Rising ss → (j k : ℕ) → j < k → k < length ss → Before (get_or ss j []) (get_or ss k [])
rising_at none j k h b = absurd (omega arith)
rising_at (more f g) zero zero h b = absurd (omega arith)
rising_at (more {ss = ss} f g) zero (suc k) h b = f _ (at_in ss k (omega arith))
rising_at (more f g) (suc j) zero h b = absurd (omega arith)
rising_at (more f g) (suc j) (suc k) h b = rising_at g j k (omega arith) (omega arith)

rising_append : (l m : List (List ℕ)) → Rising l → Rising m → ((s r : List ℕ) → In s l → In r m → Before s r) → Rising (l ++ m)
rising_append [] m none b f = b
rising_append (s ∷ l) m (more h a) b f =
    more {s = s} (λ r i. elim (in_split l m i) [ inl x ↦ h r x | inr y ↦ f s r here y ])
    (rising_append l m a b (λ x y i j. f x y (there i) j))

rising_map : (i : ℕ) {ss : List (List ℕ)} → Rising ss → Rising (map (λ r. i ∷ r) ss)
rising_map i none = none
rising_map i (more {s = s} {ss = ss} f g) =
    more (λ r a. let q = in_map i ss a in subst (λ x. Before (i ∷ s) x) q.is (later (f q.rest q.rest_in))) (rising_map i g)

-- those of one index in front come before those of a later one
rising_joined : (m : ℕ) (index : ℕ → ℕ) (ss : List (List ℕ)) → ((i j : ℕ) → i < j → index i < index j) → Rising ss
    → Rising (joined_to m (λ i. map (λ r. index i ∷ r) ss))
unfolding joined_to
rising_joined zero index ss up a = none
rising_joined (suc m) index ss up a =
    rising_append _ _ (rising_map (index 0) a)
    (rising_joined m (λ i. index (suc i)) ss (λ i j h. up (suc i) (suc j) (omega arith)) a)
    (λ s r x y.
    let p = in_map (index 0) ss x in
    let q = in_joined m (λ j. map (λ r. index (suc j) ∷ r) ss) y in
    let w = in_map (index (suc q.index)) ss q.there_in in
    subst (λ z. Before z r) p.is
    (subst (λ z. Before (index 0 ∷ p.rest) z) w.is (lower (up 0 (suc q.index) (omega arith)))))

nothing_in : {r : List ℕ} → In r [] → ⊥
nothing_in a = let b : (in_among a).index < 0 = (in_among a).within in omega arith

rising_sequences : (m n : ℕ) → Rising (sequences m n)
unfolding sequences
rising_sequences m zero = more (λ r a. absurd (nothing_in a)) none
rising_sequences m (suc n) = rising_joined m (λ i. i) (sequences m n) (λ i j h. h) (rising_sequences m n)

module _ (box : Tables → Element → Result) (rs : List (List ℕ)) where
  rising_accepted : (ss : List (List ℕ)) → Rising ss → Rising (accepted_of box rs ss)
  unfolding accepted_of
  rising_accepted [] a = none
  rising_accepted (s ∷ ss) (more f g) =
      let q = rising_accepted ss g in
      by_cases (accepts box rs s) (λ e. rw e (more (λ r i. f r (in_accepted box rs ss i).0) q)) (λ e. rw e q)

  module _ (n : ℕ) where
    to : (s : List ℕ) → Among s (listed box rs n) → Accepted box rs n s
    unfolding listed accepts
    to s a =
        let q = in_accepted box rs (sequences (length rs) n) (among_in a) in
        let w = in_sequence (length rs) n s q.0 in
        let c = count_answers box rs s in
        let l = w.count in
        record { count = w.count; indexes = w.indexes; codes = λ k h. codes_of _ q.1 k (omega arith) }

    from : (s : List ℕ) → Accepted box rs n s → Among s (listed box rs n)
    unfolding listed accepts
    from s a =
        let c = count_answers box rs s in
        let l = a.count in
        in_among
        (accepted_in box rs (sequences (length rs) n)
        (sequence_in (length rs) n s (record { count = a.count; indexes = a.indexes }))
        (of_codes _ (λ k h. a.codes k (omega arith))))

pub lists_every : (box : Tables → Element → Result) → ListsEvery box
unfolding listed
lists_every box rs n =
    record {
      exactly = λ s. (to box rs n s, from box rs n s);
      order = rising_at (rising_accepted box rs _ (rising_sequences (length rs) n));
    }
