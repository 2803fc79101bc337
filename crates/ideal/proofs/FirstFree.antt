-- An accepted protect gives the handle of the first free draw, and at most 64 draws are passed over. Assumes nothing.
use Prim.Native.Nat.{ℕ, ◌^◌, ◌≤◌, ◌<◌}
use mathlib.Core.Path.{◌≡◌, refl, sym, ap, subst, ◌∙◌}
use mathlib.Core.List.{List, [], ◌∷◌}
use native.Mathlib.Omega.{arith}
use lib.ListN.{length}
use lib.Dec.{eqb}
use Rattle.record.specs.declared.Handle.{Handle}
use Rattle.record.specs.declared.Draw.{Draw}
use Rattle.record.specs.Call.{protect}
use Rattle.record.specs.Read.{whole, read}
use Rattle.ideal.specs.declared.EscrowRow.{EscrowRow}
use Rattle.ideal.specs.State.{any}
use Rattle.ideal.specs.Step.{has_handle, handle_of, free_handle, number, accepted}
use Rattle.ideal.specs.Tables.{Tables, state_of, escrow_table, entries_of, used_escrow}
use Rattle.ideal.specs.Box.{Element, laid, call_on}
use Rattle.ideal.specs.Accuracy.{candidate, handle_used, FirstFree, HandleIsFirstFree}
use Rattle.ideal.specs.Draws.{FewPassedOver}
use Rattle.ideal.proofs.Free.{first_free}
use Rattle.ideal.proofs.Table.{escrow_lawful, entries_length}
use Rattle.ideal.proofs.Accepts.{on_state}
use Rattle.ideal.proofs.Does.{protect_passed}

-- a handle is in an entry where it is in its row, whatever the values
pub used_entries : (h : Handle) (values : List ℕ) (rs : List EscrowRow)
    → any (has_handle h) (entries_of escrow_table values rs) ≡ any (λ r. eqb r.handle.0 h.0) rs
unfolding any entries_of has_handle
used_entries h values [] = refl
used_entries h values (r ∷ rs) = rw (used_entries h values rs)

handle_used_lem : (t : Tables) (h : Handle) → any (has_handle h) (state_of t).escrow ≡ handle_used t h
unfolding state_of handle_used
handle_used_lem t h = used_entries h t.escrow_values (used_escrow t)

-- the free handle of the state that the tables stand for is the first free one in the tables
first_free_in : (t : Tables) (n : ℕ) (d : Draw) → length (state_of t).escrow ≤ 64
    → FirstFree t n d.0 (free_handle n d (state_of t).escrow)
unfolding candidate handle_of
first_free_in t n d few =
    let f = first_free n d (state_of t).escrow few in
    record {
      passed = f.passed;
      few = f.few;
      is = f.is;
      number = ap (λ h. h.0) f.is;
      free = sym (handle_used_lem t _) ∙ f.free;
      used = λ k l. sym (handle_used_lem t (candidate n d.0 k)) ∙ f.used k l;
    }

pub few_passed_over : FewPassedOver
unfolding state_of
few_passed_over t size draw few =
    let m = entries_length escrow_lawful t.escrow_values (used_escrow t) in
    (_, first_free_in t size (record { 0 = draw }) (omega arith))

-- an accepted protect gives the free handle of the state that the tables stand for
pub record Gives (t : Tables) (n : ℕ) (d : Draw) (number : ℕ) : Type 0 where
  pub few : length (state_of t).escrow ≤ 64
  pub small : d.0 < 2 ^ 48
  pub is : number ≡ (free_handle n d (state_of t).escrow).0

pub gives : (t : Tables) (e : Element) (i o n : ℕ) (d : Draw) (used : ℕ) → read e.bytes ≡ whole (protect i o n d) used
    → (call_on t e).answer.code ≡ 0 → Gives t n d (call_on t e).answer.number
unfolding laid accepted number
gives t e i o n d used reads accepts =
    let a = on_state t e (protect i o n d) used reads accepts in
    record {
      few = a.valid.escrow.few;
      small = (protect_passed (state_of t) i o n d a.valid a.passes).small;
      is = ap (λ r. r.answer.number) a.is;
    }

pub handle_is_first_free : HandleIsFirstFree call_on
handle_is_first_free t e i o n d used reads accepts =
    let g = gives t e i o n d used reads accepts in
    let m = g.is in
    let q : free_handle n d (state_of t).escrow ≡ record { 0 = (call_on t e).answer.number } = λ x. record { 0 = sym m x } in
    subst (FirstFree t n d.0) q (first_free_in t n d g.few)
