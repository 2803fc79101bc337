-- Entries compared with those before them, as the code does, and with those after them, as the definition does. Assumes nothing.
use Prim.Native.Nat.{ℕ, ◌+◌, ◌<◌}
use mathlib.Core.Path.{◌≡◌, refl, sym, ap, ◌∙◌}
use mathlib.Core.Bool.{Bool, true, false, not, ◌&&◌, ◌||◌}
use mathlib.Core.List.{List, [], ◌∷◌, ◌++◌}
use native.Mathlib.Omega.{arith}
use native.Mathlib.Numerals.{add-one}
use lib.ListN.{length, get_or, take, drop}
use lib.Seq.{take-suc, drop-cons}
use borrow.Author.Tests.{eqb-true}
use Rattle.fnv.specs.Fnv.{tag_of}
use Rattle.ideal.specs.State.{Entry, Logged, Escrowed, any, every}
use Rattle.ideal.specs.Step.{is_logged, has_handle}
use Rattle.ideal.specs.Tables.{RowsOf, entry_of, entries_of}
use Rattle.ideal.specs.Soundness.{differ, same_pair, same_handle, right_tag}
use Rattle.lists.proofs.Bools.{and_left, and_right, and_assoc}
use Rattle.ideal.proofs.Facts.{every_both}
use Rattle.ideal.proofs.Kept.{eqb_comm, same_comm}
use Rattle.lists.proofs.Lists.{any_append, any_one}
use Rattle.pairs.proofs.Pairs.{pair_logged}
use Rattle.soundness.specs.Tests.{differ_before, same_logged}

not_or : (a b : Bool) → not (a || b) ≡ not a && not b
not_or true b = refl
not_or false b = refl

module _ {A : Type 0} (same : A → A → Bool) (comm : (a b : A) → same a b ≡ same b a) where
  none_after : (a : A) (l : List A) → every (λ b. not (same b a)) l ≡ not (any (same a) l)
  unfolding any every
  none_after a [] = refl
  none_after a (b ∷ l) = rw (comm b a, none_after a l) (sym (not_or (same a b) (any (same a) l)))

  none_before : (before : List A) (a b : A) → not (any (same b) (before ++ (a ∷ []))) ≡ not (any (same b) before) && not (same b a)
  none_before before a b =
      ap not (any_append (same b) before (a ∷ []) ∙ ap (λ x. any (same b) before || x) (any_one (same b) a))
      ∙ not_or (any (same b) before) (same b a)

  before_after : (before l : List A) → differ_before same before l ≡ every (λ a. not (any (same a) before)) l && differ same l
  unfolding differ_before differ every
  before_after before [] = refl
  before_after before (a ∷ l) =
      let p : A → Bool = λ b. not (any (same b) before) in
      let q : A → Bool = λ b. not (same b a) in
      rw (before_after (before ++ (a ∷ [])) l, every_both p q (λ b. not (any (same b) (before ++ (a ∷ [])))) (none_before before a) l, none_after a l)
      (sym (and_assoc (p a) (every p l) (not (any (same a) l) && differ same l) ∙ ap (λ x. p a && x) (sym (and_assoc (every p l) (not (any (same a) l)) (differ same l)))))

  none_in_none : (l : List A) → every (λ a. not (any (same a) [])) l ≡ true
  unfolding every any
  none_in_none [] = refl
  none_in_none (a ∷ l) = none_in_none l

  differ_either_way : (l : List A) → differ_before same [] l ≡ differ same l
  differ_either_way l = before_after [] l ∙ rw (none_in_none l)

-- ---- pairs, where every tag is the right one

module _ {A : Type 0} (p : A → Bool) where
  any_where : (q r : A → Bool) → ((a : A) → p a ≡ true → q a ≡ r a) → (l : List A) → every p l ≡ true → any q l ≡ any r l
  unfolding any every
  any_where q r f [] h = refl
  any_where q r f (a ∷ l) h = rw (f a (and_left (p a) _ h), any_where q r f l (and_right (p a) _ h))

  differ_where : (same other : A → A → Bool) → ((a b : A) → p a ≡ true → p b ≡ true → same a b ≡ other a b)
      → (l : List A) → every p l ≡ true → differ same l ≡ differ other l
  unfolding differ every
  differ_where same other f [] h = refl
  differ_where same other f (a ∷ l) h =
      let here = and_left (p a) _ h in
      let rest = and_right (p a) _ h in
      rw (any_where (same a) (other a) (λ b. f a b here) l rest, differ_where same other f l rest)

logged_comm : (a b : Logged) → same_logged a b ≡ same_logged b a
unfolding same_logged is_logged
logged_comm a b =
    rw (
      eqb_comm b.key.identity a.key.identity,
      eqb_comm b.key.tag.0 a.key.tag.0,
      same_comm b.value a.value,
    )

handle_comm : (a b : Escrowed) → same_handle a b ≡ same_handle b a
unfolding same_handle has_handle
handle_comm a b = eqb_comm b.key.handle.0 a.key.handle.0

-- where pairs are the same, so are their tags
logged_pair : (a b : Logged) → right_tag a ≡ true → right_tag b ≡ true → same_logged a b ≡ same_pair a b
unfolding same_logged same_pair is_logged right_tag
logged_pair a b h k =
    let i = a.key.identity in
    let v = a.value in
    rw (eqb-true a.key.tag.0 (tag_of i v).0 h) (sym (pair_logged i v b k))

pub pairs_differ : (l : List Logged) → every right_tag l ≡ true → differ_before same_logged [] l ≡ differ same_pair l
pairs_differ l h = differ_either_way same_logged logged_comm l ∙ differ_where right_tag same_logged same_pair logged_pair l h

pub handles_differ : (l : List Escrowed) → differ_before same_handle [] l ≡ differ same_handle l
handles_differ l = differ_either_way same_handle handle_comm l

-- ---- one row on

module _ {Row Key : Type 0} (t : RowsOf Row Key) (same : Entry Key → Entry Key → Bool) (values : List ℕ) where
  entries_more : (rs : List Row) (r : Row) → entries_of t values (rs ++ (r ∷ [])) ≡ entries_of t values rs ++ (entry_of t values r ∷ [])
  unfolding entries_of
  entries_more [] r = refl
  entries_more (q ∷ rs) r = ap (λ l. entry_of t values q ∷ l) (entries_more rs r)

  pub differ_step : (rows : List Row) (i : ℕ) → i < length rows
      → differ_before same (entries_of t values (take i rows)) (entries_of t values (drop i rows))
      ≡ not (any (same (entry_of t values (get_or rows i t.blank))) (entries_of t values (take i rows)))
      && differ_before same (entries_of t values (take (i + 1) rows)) (entries_of t values (drop (i + 1) rows))
  unfolding differ_before entries_of
  differ_step rows i h =
      rw (drop-cons rows i t.blank h, add-one i, take-suc rows i t.blank h, entries_more (take i rows) (get_or rows i t.blank))

  -- one row or none has none to differ from
  pub few_differ : (rows : List Row) → length rows < 2 → differ_before same [] (entries_of t values rows) ≡ true
  unfolding differ_before entries_of any
  few_differ [] h = refl
  few_differ (r ∷ []) h = refl
  few_differ (r ∷ q ∷ rows) h = absurd (omega arith)
