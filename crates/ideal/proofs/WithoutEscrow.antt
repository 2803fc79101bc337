-- Demand 3's premises are met on a level-one box by two lists that differ: none of their calls is barred. Assumes nothing.
use Prim.Native.Nat.{ℕ, zero, suc, ◌<◌}
use mathlib.Core.Path.{◌≡◌, refl, sym, ap, ◌∙◌}
use mathlib.Core.List.{List, [], ◌∷◌, map}
use native.Mathlib.Omega.{arith}
use lib.ListN.{length, take}
use lib.Seq.{take_all}
use Rattle.record.specs.Call.{Call}
use Rattle.record.specs.Layout.{stands, kinds, among, kind_of}
use Rattle.record.specs.Read.{whole, read, from_little, field, contents, bytes_field, fields, read_fields, read_kind, after_map}
use Rattle.record.specs.Write.{write, only, record_of, filled, record_in}
use Rattle.fnv.specs.Fnv.{little}
use Rattle.ideal.specs.State.{State, fresh, cleared, own_part, any, same_bytes, bytes_used}
use Rattle.ideal.specs.Step.{effect, refusal, first_holding, tests, idle, vacant, beyond, full, paired, with_pair, move, apply}
use Rattle.ideal.specs.Tables.{tables}
use Rattle.ideal.specs.Box.{Element, call_on, element_at, tables_from, tables_after, tables_before, answer_at}
use Rattle.ideal.specs.Secrecy.{inside}
use Rattle.ideal.specs.LevelOne.{is_other, logged_other, level_one_on}
use Rattle.ideal.specs.Witness.{group, element, calls_without}
use Rattle.ideal.specs.LevelOneDemands.{MetWithoutEscrow}
use Rattle.ideal.specs.Valid.{Valid}
use Rattle.ideal.proofs.Laid.{ready_is, state_tables, fresh_tables_lem}
use Rattle.ideal.proofs.Kept.{valid_fresh, valid_effect}
use Rattle.ideal.proofs.TwoStates.{other_call}
use Rattle.ideal.proofs.Differing.{Accepted, none, call, after as after_all, next_tables, end, step, alike, Open, differing}
use Rattle.ideal.proofs.OwnRefusals.{then22, then23, barred_with}
use Rattle.ideal.proofs.Yields.{barred_reading, barred_in}
use Rattle.ideal.proofs.LevelOneSecret.{full_where}

-- ---- a list of which no call is barred

data Unbarred : State → List Call → Type 0 where
  no_call : {s : State} → Unbarred s []
  passes : {s : State} {c : Call} {cs : List Call} → barred_with s c ≡ 0 → Unbarred (effect s c) cs → Unbarred s (c ∷ cs)

full_at : (s : State) (c : Call) → Valid s → read (write c) ≡ whole c (length (write c)) → barred_with s c ≡ 0
    → level_one_on (tables s) (element c) ≡ call_on (tables s) (element c)
unfolding element barred_in barred_reading
full_at s c v r b = full_where (tables s) (element c) (rw (ready_is s 1024 v, state_tables s v, r, b))

same_tables : {s : State} {cs : List Call} → Valid s → Accepted s cs → Unbarred s cs → (k : ℕ)
    → tables_from level_one_on (tables s) (take k (map element cs)) ≡ tables_from call_on (tables s) (take k (map element cs))
unfolding tables_from
same_tables v none no_call zero = refl
same_tables v none no_call (suc k) = refl
same_tables v (call r p a) (passes b u) zero = refl
same_tables {s} v (call {c = c} {cs = cs} r p a) (passes b u) (suc k) =
    let n = next_tables v r p in
    ap (λ x. tables_from level_one_on x (take k (map element cs))) (ap (λ x. x.tables) (full_at s c v r b) ∙ n)
    ∙ same_tables (valid_effect _ _ v p) a u k
    ∙ ap (λ x. tables_from call_on x (take k (map element cs))) (sym n)

same_call : {s : State} {cs : List Call} → Valid s → Accepted s cs → Unbarred s cs → (k : ℕ) → k < length (map element cs)
    → let t = tables_from call_on (tables s) (take k (map element cs)) in
    let e = element_at (map element cs) k in
    level_one_on t e ≡ call_on t e
unfolding tables_from element_at
same_call v none no_call k l = absurd (omega arith)
same_call {s} v (call {c = c} r p a) (passes b u) zero l = full_at s c v r b
same_call v (call {cs = cs} r p a) (passes b u) (suc k) l =
    let t = next_tables v r p in
    rw t (same_call (valid_effect _ _ v p) a u k (omega arith))

-- ---- from a fresh box

module _ {cs : List Call} (a : Accepted fresh cs) (u : Unbarred fresh cs) where
  abbrev es : List Element
  es = map element cs

  before : (k : ℕ) → tables_before level_one_on es k ≡ tables_before call_on es k
  unfolding tables_before tables_after
  before k = rw fresh_tables_lem (same_tables valid_fresh a u k)

  after : tables_after level_one_on es ≡ tables_after call_on es
  unfolding tables_before
  after = rw (take_all (length es) es (omega arith)) at (before (length es))

  result : (k : ℕ) → k < length es
      → level_one_on (tables_before call_on es k) (element_at es k) ≡ call_on (tables_before call_on es k) (element_at es k)
  unfolding tables_before tables_after
  result k l = rw fresh_tables_lem (same_call valid_fresh a u k l)

  answer : (k : ℕ) → k < length es → answer_at level_one_on es k ≡ answer_at call_on es k
  unfolding answer_at
  answer k l = ap (λ t. (level_one_on t (element_at es k)).answer) (before k) ∙ ap (λ r. r.answer) (result k l)

-- ---- the witness

computed : Open calls_without 0 1
unfolding calls_without after_all group fresh cleared own_part any same_bytes bytes_used full paired with_pair first_holding idle vacant beyond tests refusal move apply effect inside stands kinds among kind_of from_little field contents bytes_field fields read_fields read_kind after_map read only record_of filled record_in write little
computed =
    record {
      accepts = λ a.
          call refl refl (call refl refl (call refl refl (call refl refl (call refl refl (call refl refl (call refl refl
          (call refl refl (call refl refl (call refl refl none)))))))));
      steps = λ a b.
          alike tt (alike tt (alike tt (alike tt (alike refl (step (other_call 0 1 (a ∷ []) (b ∷ []) refl refl) tt
          (alike tt (alike tt (alike tt (alike tt end)))))))));
      heap = λ a. refl;
    }

unbarred : (a : ℕ) → Unbarred fresh (calls_without a)
unfolding calls_without fresh cleared own_part any same_bytes paired with_pair idle beyond move apply effect barred_with then22 then23 is_other logged_other
unbarred a =
    passes refl (passes refl (passes refl (passes refl (passes refl (passes refl (passes refl (passes refl (passes refl (passes refl no_call)))))))))

pub met_without_escrow : MetWithoutEscrow level_one_on
met_without_escrow =
    let d : MetWithoutEscrow call_on = differing computed (omega arith) (omega arith) in
    let a = computed.accepts in
    let n = d.alike.long in
    record {
      alike = record { long = n; alike = λ k l. rw (before (a 66) (unbarred 66) k) (d.alike.alike k l) };
      premise = λ k l.
          let p = d.premise k l in
          rw (before (a 66) (unbarred 66) k, before (a 67) (unbarred 67) k)
          (record {
            attests = p.attests;
            protects = λ g i o m w u r out z. p.protects g i o m w u r out (ap (λ x. x.answer.code) (sym (result (a 66) (unbarred 66) k l)) ∙ z);
          });
      accepted₁ = λ k l. ap (λ x. x.code) (answer (a 66) (unbarred 66) k l) ∙ d.accepted₁ k l;
      accepted₂ = λ k l. ap (λ x. x.code) (answer (a 67) (unbarred 67) k l) ∙ d.accepted₂ k l;
      secret₁ = rw (after (a 66) (unbarred 66)) d.secret₁;
      secret₂ = rw (after (a 67) (unbarred 67)) d.secret₂;
    }
