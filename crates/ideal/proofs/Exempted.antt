-- A group program's own chain may tell a byte of what it is given, by its code and by its number; no other call may. Assumes
-- nothing.
use Prim.Native.Nat.{ℕ, ◌+◌, ◌*◌, ◌^◌, ◌<◌}
use mathlib.Core.Path.{◌≡◌, refl, sym, ap, ◌∙◌}
use mathlib.Core.Bool.{true, false, ◌&&◌}
use mathlib.Core.List.{List, [], ◌∷◌, ◌++◌, map}
use native.Mathlib.Omega.{arith}
use lib.ListN.{length, get_or, take}
use lib.Dec.{eqb}
use Rattle.record.specs.Call.{logged_link, escrowed_link, link_by, way_of, identity_of, number_of, Call, create, heap_write, check, hand_over, chain}
use Rattle.record.specs.Layout.{stands, kinds, among, kind_of}
use Rattle.record.specs.Read.{whole, read, from_little, field, contents, bytes_field, fields, read_fields, read_kind, after_map}
use Rattle.record.specs.Write.{write, only, record_of, filled, record_in}
use Rattle.fnv.specs.Fnv.{little}
use Rattle.ideal.specs.State.{heap_at, fresh, cleared, own_part, any, find, bytes_used}
use Rattle.ideal.specs.Step.{Answer, refused_answer, refuse, accepted, settle, step_by, effect, refusal, first_holding, head_of, is_malformed, next_count, next_cut, next_value, unreadable, bytes_after, after_head, links_after, link_value, unvouched, follow, links_from, tests, idle, vacant, beyond, full, is_named, is_escrowed, found, absent, value_in, has_handle, handle_of, next, free_from, free_handle, protected, move, apply, number, shown, reading_by, step_on_by}
use Rattle.ideal.specs.Tables.{Tables, box_record, tables, fresh_tables}
use Rattle.ideal.specs.Box.{Element, Result, laid, call_on, element_at, tables_from, tables_after, tables_before, answer_at}
use Rattle.ideal.specs.Secrecy.{inside, group_runs, same, PremiseAt, AlikeLists, Premise, is_chain, own_chain, Secrecy}
use Rattle.ideal.specs.Witness.{group, element, before, chained, links, Tells, ExemptionNeeded}
use Rattle.ideal.specs.Fakes.{kind_in, tells, NoOtherExempt}
use Rattle.ideal.specs.Refusals.{caller_in}
use Rattle.ideal.proofs.Hosted.{byte_is}
use Rattle.ideal.proofs.Laid.{step_element, fresh_tables_lem, call_is}
use Rattle.ideal.proofs.Kept.{valid_fresh}
use Rattle.ideal.proofs.TwoStates.{same_state, other_call}
use Rattle.ideal.proofs.TwoRuns.{Indexed, ended, both}
use Rattle.ideal.proofs.Secret.{held}
use Rattle.ideal.proofs.Differing.{Accepted, none, call, after, all_valid, tables_end, Steps, end, step, alike, whole_call, indexed}

abbrev last : Call
last = chain (escrowed_link 1 (record { 0 = 17 * 2 ^ 48 + 7 })) []

-- the bytes of the value that leads on, but for its first
abbrev tail : List ℕ
tail = little 8 1 ++ little 8 (2 ^ 48 + 7)

record Computed (a b : ℕ) : Type 0 where
  accepts : Accepted fresh (before a)
  steps : Steps fresh fresh (before a) (before b)
  reads : read (write last) ≡ whole last 21
  own : own_chain group (tables (after fresh (before a))) (element last) ≡ true

computed : (a b : ℕ) → Computed a b
unfolding before group after fresh cleared own_part any find bytes_used full is_named is_escrowed found absent value_in has_handle handle_of next free_from free_handle first_holding idle vacant beyond tests refusal protected move apply effect inside group_runs is_chain own_chain element tables box_record link_by way_of identity_of number_of stands kinds among kind_of from_little field contents bytes_field fields read_fields read_kind after_map read only record_of filled record_in write little
computed a b =
    record {
      accepts =
          call refl refl (call refl refl (call refl refl (call refl refl (call refl refl (call refl refl (call refl refl
          (call refl refl none)))))));
      steps =
          alike tt (alike tt (alike tt (alike tt (alike tt
          (step (other_call 0 0 (a ∷ tail) (b ∷ tail) refl refl) tt
          (alike tt (alike tt end)))))));
      reads = refl;
      own = refl;
    }

-- what the chain answers, on the state
answered : ((step_element (after fresh (before 1)) (element last)).answer ≡ links 0 1)
    × ((step_element (after fresh (before 3)) (element last)).answer ≡ links 0 2)
    × ((step_element (after fresh (before 0)) (element last)).answer ≡ links 19 0)
unfolding step_element links refused_answer refuse accepted settle step_by reading_by step_on_by number shown head_of is_malformed next_count next_cut next_value unreadable bytes_after after_head links_after link_value unvouched follow links_from before after fresh cleared own_part any find bytes_used full is_named is_escrowed found absent value_in has_handle handle_of next free_from free_handle first_holding idle vacant beyond tests refusal protected move apply effect element link_by way_of identity_of number_of stands kinds among kind_of from_little field contents bytes_field fields read_fields read_kind after_map read only record_of filled record_in write little
answered = (refl, refl, refl)

-- a call that neither attests nor protects makes nothing known
premise_last : (box : Tables → Element → Result) (c : Call) (n : ℕ) → read (write c) ≡ whole c n → ((filled c).kind ≡ 9 → ⊥)
    → ((filled c).kind ≡ 11 → ⊥) → (t u : Tables) → PremiseAt box group t u (element c)
unfolding element filled
premise_last box c n r a p t u =
    record {
      attests = λ g o m used q. absurd (a (ap (λ x. (filled x).kind) (whole_call (sym r ∙ q))));
      protects = λ g j o m d used q. absurd (p (ap (λ x. (filled x).kind) (whole_call (sym r ∙ q))));
    }

lists : (a b : ℕ) → Indexed call_on group fresh_tables fresh_tables (chained a) (chained b)
unfolding chained
lists a b =
    rw fresh_tables_lem
    (indexed (element last ∷ []) (element last ∷ []) (same_state (held group) fresh) valid_fresh valid_fresh
    (computed a b).accepts (computed b a).accepts (computed a b).steps
    (both call_on group (same refl) (premise_last call_on last 21 (computed a b).reads (λ e. unfold filled in omega arith) (λ e. unfold filled in omega arith) _ _) (ended call_on group)))

tables_eight : (b : ℕ) → tables_before call_on (chained b) 8 ≡ tables (after fresh (before b))
unfolding tables_before tables_after chained before
tables_eight b = ap (λ t. tables_from call_on t (map element (before b))) fresh_tables_lem ∙ tables_end valid_fresh (computed b b).accepts

answer_is : (b : ℕ) (a : Answer) → (step_element (after fresh (before b)) (element last)).answer ≡ a → answer_at call_on (chained b) 8 ≡ a
unfolding answer_at chained before element_at laid
answer_is b a q =
    ap (λ t. (call_on t (element last)).answer) (tables_eight b)
    ∙ ap (λ r. r.answer) (call_is (after fresh (before b)) (element last) (all_valid valid_fresh (computed b b).accepts))
    ∙ q

differ : (a b : ℕ) (x y : Answer) → (step_element (after fresh (before a)) (element last)).answer ≡ x
    → (step_element (after fresh (before b)) (element last)).answer ≡ y → Tells call_on (chained a) (chained b) x y
unfolding tables_before tables_after chained before element_at
differ a b x y p q =
    let i = lists a b in
    record {
      alike = record { long = i.long; alike = i.alike };
      premise = i.premise;
      own = ap (λ t. own_chain group t (element last)) (tables_eight a) ∙ (computed a b).own;
      first = answer_is a x p;
      second = answer_is b y q;
    }

pub exemption_needed : ExemptionNeeded call_on
exemption_needed =
    record { number = differ 1 3 _ _ answered.0 answered.1; code = differ 1 0 _ _ answered.0 answered.2 }

-- ---- what is not exempt

-- 1 writes the byte b, and the place p is handed over to
unfoldable told : (p b : ℕ) → List Call
told p b = create 0 1 ∷ create 1 3 ∷ hand_over 0 ∷ heap_write 0 0 (b ∷ []) ∷ hand_over p ∷ []

unfoldable asked : (p : ℕ) → Call → (b : ℕ) → List Element
asked p c b = map element (told p b) ++ (element c ∷ [])

-- then a call of the kind, by `who`, that is compared
record Compared (p : ℕ) (c : Call) (kind who a b : ℕ) : Type 0 where
  accepts : Accepted fresh (told p a)
  steps : Steps fresh fresh (told p a) (told p b)
  reads : read (write c) ≡ whole c (length (write c))
  byte : get_or (heap_at (after fresh (told p a)) 0) 0 0 ≡ a
  compared : own_chain group (tables (after fresh (told p a))) (element c) ≡ false
  by : (eqb (kind_in (read (element c).bytes)) kind && eqb (caller_in (tables (after fresh (told p a)))) who) ≡ true
  unattested : (filled c).kind ≡ 9 → ⊥
  unprotected : (filled c).kind ≡ 11 → ⊥

module _ (p : ℕ) (c : Call) (kind who : ℕ) (x : (a b : ℕ) → Compared p c kind who a b) where
  abbrev box : Tables → Element → Result
  box = tells kind who

  -- this box leaves what the definition does
  same_tables : (es : List Element) (t : Tables) → tables_from box t es ≡ tables_from call_on t es
  unfolding tables_from tells
  same_tables [] t = refl
  same_tables (e ∷ es) t = same_tables es (call_on t e).tables

  same_before : (es : List Element) (k : ℕ) → tables_before box es k ≡ tables_before call_on es k
  unfolding tables_before tables_after
  same_before es k = same_tables (take k es) fresh_tables

  in_step : (a b : ℕ) → Indexed call_on group fresh_tables fresh_tables (asked p c a) (asked p c b)
  unfolding asked
  in_step a b =
      let y = x a b in
      rw fresh_tables_lem
      (indexed (element c ∷ []) (element c ∷ []) (same_state (held group) fresh) valid_fresh valid_fresh
      y.accepts (x b a).accepts y.steps
      (both call_on group (same refl) (premise_last call_on c _ y.reads y.unattested y.unprotected _ _) (ended call_on group)))

  tables_five : (b : ℕ) → tables_before box (asked p c b) 5 ≡ tables (after fresh (told p b))
  unfolding tables_before tables_after asked told
  tables_five b =
      same_before (asked p c b) 5 ∙ ap (λ t. tables_from call_on t (map element (told p b))) fresh_tables_lem
      ∙ tables_end valid_fresh (x b b).accepts

  tells_byte : (b : ℕ) → (answer_at box (asked p c b) 5).number ≡ b
  unfolding answer_at tells asked told element_at
  tells_byte b =
      rw (tables_five b, (x b b).by)
      (byte_is (after fresh (told p b)) (all_valid valid_fresh (x b b).accepts) 0 0 (omega arith) (omega arith) ∙ (x b b).byte)

  last_compared : own_chain group (tables_before box (asked p c 0) 5) (element_at (asked p c 0) 5) ≡ false
  unfolding asked told element_at
  last_compared = ap (λ t. own_chain group t (element c)) (tables_five 0) ∙ (x 0 1).compared

  -- its codes are the definition's
  premise_too : (t u : Tables) (e : Element) → PremiseAt call_on group t u e → PremiseAt box group t u e
  unfolding tells
  premise_too t u e q = record { attests = q.attests; protects = q.protects }

  shut_out : Secrecy box → ⊥
  unfolding tables_before tables_after
  shut_out secret =
      let i = in_step 0 1 in
      let six : 5 < length (asked p c 0) = unfold asked told in omega arith in
      let alike : AlikeLists box group (asked p c 0) (asked p c 1) =
      record { long = i.long; alike = λ k l. rw (same_before (asked p c 0) k) (i.alike k l) } in
      let premise : Premise box group (asked p c 0) (asked p c 1) = λ k l.
      premise_too _ _ (element_at (asked p c 0) k) (rw (same_before (asked p c 0) k, same_before (asked p c 1) k) (i.premise k l)) in
      let same = ((secret group (asked p c 0) (asked p c 1) alike premise).answers 5 six).number last_compared in
      let z : ◌≡◌ {A = ℕ} 0 1 = sym (tells_byte 0) ∙ same ∙ tells_byte 1 in
      omega arith

outsider : (a b : ℕ) → Compared 1 (chain (logged_link 1 (record { 0 = 0 })) []) 15 3 a b
unfolding told group after fresh cleared first_holding idle vacant beyond tests refusal move apply effect inside group_runs is_chain own_chain kind_in element tables box_record link_by way_of identity_of number_of stands kinds among kind_of from_little field contents bytes_field fields read_fields read_kind after_map read only record_of filled record_in write little
outsider a b =
    record {
      accepts = call refl refl (call refl refl (call refl refl (call refl refl (call refl refl none))));
      steps = alike tt (alike tt (alike tt (step (other_call 0 0 (a ∷ []) (b ∷ []) refl refl) tt (alike tt end))));
      reads = refl;
      byte = refl;
      compared = refl;
      by = refl;
      unattested = λ e. omega arith;
      unprotected = λ e. omega arith;
    }

nobody : (a b : ℕ) → Compared 16 (chain (logged_link 1 (record { 0 = 0 })) []) 15 0 a b
unfolding told group after fresh cleared first_holding idle vacant beyond tests refusal move apply effect inside group_runs is_chain own_chain kind_in element tables box_record link_by way_of identity_of number_of stands kinds among kind_of from_little field contents bytes_field fields read_fields read_kind after_map read only record_of filled record_in write little
nobody a b =
    record {
      accepts = call refl refl (call refl refl (call refl refl (call refl refl (call refl refl none))));
      steps = alike tt (alike tt (alike tt (step (other_call 0 0 (a ∷ []) (b ∷ []) refl refl) tt (alike tt end))));
      reads = refl;
      byte = refl;
      compared = refl;
      by = refl;
      unattested = λ e. omega arith;
      unprotected = λ e. omega arith;
    }

own_check : (a b : ℕ) → Compared 0 (check 1 (record { 0 = 0 }) []) 10 1 a b
unfolding told group after fresh cleared first_holding idle vacant beyond tests refusal move apply effect inside group_runs is_chain own_chain kind_in element tables box_record link_by way_of identity_of number_of stands kinds among kind_of from_little field contents bytes_field fields read_fields read_kind after_map read only record_of filled record_in write little
own_check a b =
    record {
      accepts = call refl refl (call refl refl (call refl refl (call refl refl (call refl refl none))));
      steps = alike tt (alike tt (alike tt (step (other_call 0 0 (a ∷ []) (b ∷ []) refl refl) tt (alike tt end))));
      reads = refl;
      byte = refl;
      compared = refl;
      by = refl;
      unattested = λ e. omega arith;
      unprotected = λ e. omega arith;
    }

pub no_other_exempt : NoOtherExempt
no_other_exempt =
    record {
      outsider = shut_out 1 (chain (logged_link 1 (record { 0 = 0 })) []) 15 3 outsider;
      nobody = shut_out 16 (chain (logged_link 1 (record { 0 = 0 })) []) 15 0 nobody;
      own_check = shut_out 0 (check 1 (record { 0 = 0 }) []) 10 1 own_check;
    }
