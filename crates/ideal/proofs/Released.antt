-- What an accepted release alters in the host's tables. Assumes nothing.
use Prim.Native.Nat.{ℕ, zero, suc, ◌+◌}
use mathlib.Core.Path.{◌≡◌, refl, sym, ap, ◌∙◌, subst}
use mathlib.Core.Bool.{true}
use mathlib.Core.List.{List, [], ◌∷◌, ◌++◌}
use native.Mathlib.Omega.{arith}
use lib.ListN.{length, get_or, length-append}
use borrow.Author.Tests.{eqb-true}
use Rattle.record.specs.declared.Handle.{Handle}
use Rattle.record.specs.Call.{release}
use Rattle.ideal.specs.State.{Escrowed, State, caller, bytes_used}
use Rattle.ideal.specs.Step.{is_named, is_escrowed, spent, move, apply, effect, accepted}
use Rattle.ideal.specs.Tables.{escrow_table, box_record, tables, state_of}
use Rattle.ideal.specs.Box.{laid, call_on}
use Rattle.ideal.specs.Valid.{Valid}
use Rattle.ideal.specs.OneCall.{with_released}
use Rattle.ideal.specs.Release.{escrow_row, Released, ReleaseAlters}
use Rattle.lists.proofs.Bools.{and_left, and_right}
use Rattle.ideal.proofs.Does.{release_passed}
use Rattle.ideal.proofs.GivenUp.{IsNamed, is_named_lem}
use Rattle.ideal.proofs.Hosted.{escrowed_is}
use Rattle.ideal.proofs.CloseUp.{row_is, released_tables}
use Rattle.ideal.proofs.Kept.{valid_effect}
use Rattle.ideal.proofs.Accepts.{on_state}
use Rattle.ideal.proofs.OneCalls.{given, given_escrow}

-- an element elsewhere than at the seam
elsewhere : {A : Type 0} (front rest : List A) (x y d : A) (k : ℕ) → (k ≡ length front → ⊥)
    → get_or (front ++ (x ∷ rest)) k d ≡ get_or (front ++ (y ∷ rest)) k d
elsewhere [] rest x y d zero n = absurd (n refl)
elsewhere [] rest x y d (suc k) n = refl
elsewhere (a ∷ front) rest x y d zero n = refl
elsewhere (a ∷ front) rest x y d (suc k) n = elsewhere front rest x y d k (λ e. n (ap suc e))

-- the entry e among the others is the one that is released
module _ (s : State) (i : ℕ) (h : Handle) (k : Valid s) (v : Valid (effect s (release i h))) (front rest : List Escrowed)
    (e : Escrowed) (is : s.escrow ≡ front ++ (e ∷ rest)) (passes : is_escrowed h i (caller s) e ≡ true)
    (now : (effect s (release i h)).escrow ≡ front ++ (spent e ∷ rest)) where
  abbrev after : State
  after = effect s (release i h)

  row : escrow_row (tables s) (length front) ≡ escrow_table.row e.key (bytes_used front) (length e.value)
  unfolding tables
  row = rw is (row_is front rest e)

  named : IsNamed h i (caller s) e
  unfolding is_escrowed
  named = is_named_lem h i (caller s) e (and_left (is_named h i (caller s) e) _ passes)

  mark : e.key.mark ≡ 0
  unfolding is_escrowed
  mark = eqb-true e.key.mark 0 (and_right (is_named h i (caller s) e) _ passes)

  row_after_lem : escrow_row (tables after) (length front) ≡ escrow_table.row (spent e).key (bytes_used front) (length (spent e).value)
  unfolding tables
  row_after_lem = rw now (row_is front rest (spent e))

  alters : tables after ≡ with_released (tables s) (length front)
  unfolding effect move apply
  alters = rw now (released_tables front rest e s is (rw is at k.escrow.fits))

  released : Released (tables s) (tables after) i h
  unfolding tables box_record spent
  released =
      let z = named.handle in
      let n = ap length is in
      let m = ap length now in
      let both : length (front ++ (spent e ∷ rest)) ≡ length (front ++ (e ∷ rest)) = rw (length-append, length-append) in
      let seam : length (front ++ (e ∷ rest)) ≡ length front + suc (length rest) = length-append front (e ∷ rest) in
      record {
        index = length front;
        used = omega arith;
        source = ap (λ r. r.source) row ∙ named.source;
        recipient = ap (λ r. r.recipient) row ∙ named.recipient;
        handle = ap (λ r. r.handle) row ∙ λ x. record { 0 = z x };
        unspent = ap (λ r. r.mark) row ∙ mark;
        spent = row_after_lem
            ∙ λ x. record {
              source = named.source x;
              recipient = named.recipient x;
              handle = record { 0 = z x };
              first = sym (ap (λ r. r.first) row) x;
              length = 0;
              mark = 1;
            };
        alters = alters;
        others = λ j b d.
            ap (λ x. x.value) (escrowed_is after v e j (omega arith))
            ∙ ap (λ l. (get_or l j e).value) now
            ∙ ap (λ x. x.value) (elsewhere front rest (spent e) e e j d)
            ∙ ap (λ l. (get_or l j e).value) (sym is)
            ∙ sym (ap (λ x. x.value) (escrowed_is s k e j b));
      }

pub release_alters : ReleaseAlters call_on
unfolding laid accepted
release_alters t e i h used y z =
    let o = on_state t e (release i h) used y z in
    let s = state_of t in
    let a = release_passed s i h o.valid o.passes in
    let g = given s i h o.valid a in
    let now : (effect s (release i h)).escrow ≡ g.front ++ (spent g.here ∷ g.rest) =
    unfold effect move apply in given_escrow s i h o.valid a in
    let r = released s i h o.valid (valid_effect s (release i h) o.valid o.passes) g.front g.rest g.here g.is g.passes now in
    rw o.is (subst (λ x. Released x (tables (effect s (release i h))) i h) o.back r)
