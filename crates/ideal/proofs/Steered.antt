-- Where a heap byte steers the handle, two alike lists get different handles: demand 3 fails. Assumes nothing.
use Prim.Native.Nat.{ℕ, zero, suc, ◌+◌, ◌^◌, ◌≤◌, ◌<◌}
use mathlib.Core.Path.{◌≡◌, refl, sym, ap, ◌∙◌}
use mathlib.Core.Bool.{Bool, true, false}
use mathlib.Core.List.{List, [], ◌∷◌, map}
use native.Mathlib.Omega.{arith}
use lib.ListN.{length}
use lib.Dec.{eqb}
use borrow.Author.Tests.{ne_eqb}
use Rattle.fnv.specs.Fnv.{little}
use Rattle.record.specs.declared.Draw.{Draw}
use Rattle.record.specs.Call.{create, heap_write, attest, protect, hand_over}
use Rattle.record.specs.Layout.{stands, kinds, among, kind_of}
use Rattle.record.specs.Read.{whole, read, from_little, field, contents, bytes_field, fields, read_fields, read_kind, after_map}
use Rattle.record.specs.Write.{write, only, record_of, filled, record_in}
use Rattle.ideal.specs.State.{fresh, cleared, own_part, any, bytes_used}
use Rattle.ideal.specs.Step.{full, has_handle, handle_of, next, free_from, free_handle, first_holding, idle, vacant, beyond, tests, refusal, protected, move, apply, effect, number, shown, accepted, settle, reading_by, step_on_by, step_by}
use Rattle.ideal.specs.Tables.{Tables, flat, box_record, tables}
use Rattle.ideal.specs.Box.{Element, laid, call_on, element_at, tables_from, tables_after, tables_before, answer_at}
use Rattle.ideal.specs.Secrecy.{inside, group_runs, AlikeAt, same, other_bytes, AlikeLists, PremiseAt, Premise, is_chain, own_chain}
use Rattle.ideal.specs.Witness.{element}
use Rattle.ideal.specs.Fakes.{kind_in, steered, byte_steers, TellsTheByte}
use Rattle.lists.proofs.Bools.{clash, and_false}
use Rattle.ideal.proofs.Laid.{step_element, call_is}
use Rattle.ideal.proofs.Runs.{state_from, state_before, valid_before, tables_before_lem}
use Rattle.ideal.proofs.FixedRuns.{tables_next}

-- ---- until a protect the steered box is the definition

abbrev Unsteered : List Element → ℕ → Type 0
Unsteered es k = (j : ℕ) → j < k → kind_in (read (element_at es j).bytes) ≡ 11 → ⊥

unsteered_is : (t : Tables) (e : Element) → (kind_in (read e.bytes) ≡ 11 → ⊥) → steered t e ≡ e
unfolding steered
unsteered_is t e n = rw (ne_eqb (kind_in (read e.bytes)) 11 n)

plain : (t : Tables) (e : Element) → (kind_in (read e.bytes) ≡ 11 → ⊥) → byte_steers t e ≡ call_on t e
unfolding byte_steers
plain t e n = ap (call_on t) (unsteered_is t e n)

same_to : (es : List Element) (k : ℕ) → k ≤ length es → Unsteered es k → tables_before byte_steers es k ≡ tables_before call_on es k
same_to es zero b h = unfold tables_before tables_after tables_from in refl
same_to es (suc k) b h =
    let e = element_at es k in
    tables_next byte_steers es k (omega arith)
    ∙ ap (λ t. (byte_steers t e).tables) (same_to es k (omega arith) (λ j l. h j (omega arith)))
    ∙ ap (λ r. r.tables) (plain (tables_before call_on es k) e (h k (omega arith)))
    ∙ sym (tables_next call_on es k (omega arith))

before_same : (es : List Element) (k : ℕ) → k ≤ length es → Unsteered es k → tables_before byte_steers es k ≡ tables (state_before es k)
before_same es k b h = same_to es k b h ∙ tables_before_lem es k

-- ---- two lists

-- program 1
unfoldable group : ℕ → Bool
group i = eqb i 1

-- it escrows for itself the byte b
unfoldable elements : ℕ → List Element
elements b = map element (create 0 1 ∷ hand_over 0 ∷ heap_write 0 0 (b ∷ []) ∷ protect 1 0 1 (record { 0 = 7 }) ∷ [])

unfoldable handle_for : ℕ → ℕ
handle_for b =
    let s = state_before (elements b) 3 in (step_element s (steered (tables s) (element_at (elements b) 3))).answer.number

record Computed : Type 0 where
  size : (b : ℕ) → length (elements b) ≡ 4
  reads₀ : (b : ℕ) → read (element_at (elements b) 0).bytes ≡ whole (create 0 1) 11
  reads₁ : (b : ℕ) → read (element_at (elements b) 1).bytes ≡ whole (hand_over 0) 3
  reads₂ : (b : ℕ) → read (element_at (elements b) 2).bytes ≡ whole (heap_write 0 0 (b ∷ [])) 8
  reads₃ : (b : ℕ) → read (element_at (elements b) 3).bytes ≡ whole (protect 1 0 1 (record { 0 = 7 })) 22
  same₀ : element_at (elements 0) 0 ≡ element_at (elements 1) 0
  same₁ : element_at (elements 0) 1 ≡ element_at (elements 1) 1
  size₂ : (element_at (elements 0) 2).output_size ≡ (element_at (elements 1) 2).output_size
  profile₂ : (element_at (elements 0) 2).profile ≡ (element_at (elements 1) 2).profile
  same₃ : element_at (elements 0) 3 ≡ element_at (elements 1) 3
  runs : group_runs group (tables (state_before (elements 0) 2)) ≡ true
  handle₁ : handle_for 0 ≡ 2 ^ 48 + 7
  handle₂ : handle_for 1 ≡ 2 ^ 48 + 8

computed : Computed
unfolding group elements handle_for steered kind_in element element_at step_element state_before state_from group_runs inside flat box_record tables little stands kinds among kind_of from_little field contents bytes_field fields read_fields read_kind after_map read write only record_of filled record_in fresh cleared own_part any bytes_used full has_handle handle_of next free_from free_handle first_holding idle vacant beyond tests refusal protected move apply effect number shown accepted settle step_by reading_by step_on_by
computed =
    record {
      size = λ b. refl;
      reads₀ = λ b. refl;
      reads₁ = λ b. refl;
      reads₂ = λ b. refl;
      reads₃ = λ b. refl;
      same₀ = refl;
      same₁ = refl;
      size₂ = refl;
      profile₂ = refl;
      same₃ = refl;
      runs = refl;
      handle₁ = refl;
      handle₂ = refl;
    }

module _ (c : Computed) where
  -- the kinds of the four calls
  unsteered : (b : ℕ) → Unsteered (elements b) 3
  unfolding kind_in filled
  unsteered b zero l q = let z : ◌≡◌ {A = ℕ} 1 11 = sym (ap kind_in (c.reads₀ b)) ∙ q in omega arith
  unsteered b (suc zero) l q = let z : ◌≡◌ {A = ℕ} 14 11 = sym (ap kind_in (c.reads₁ b)) ∙ q in omega arith
  unsteered b (suc (suc zero)) l q = let z : ◌≡◌ {A = ℕ} 5 11 = sym (ap kind_in (c.reads₂ b)) ∙ q in omega arith
  unsteered b (suc (suc (suc j))) l q = omega arith

  alike : AlikeLists byte_steers group (elements 0) (elements 1)
  alike = record { long = c.size 0 ∙ sym (c.size 1); alike = at }
    where
      at : (k : ℕ) → k < length (elements 0)
          → AlikeAt group (tables_before byte_steers (elements 0) k) (element_at (elements 0) k) (element_at (elements 1) k)
      at zero l = same c.same₀
      at (suc zero) l = same c.same₁
      at (suc (suc zero)) l =
          let t = before_same (elements 0) 2 (omega (arith, c.size 0)) (λ j b. unsteered 0 j (omega arith)) in
          other_bytes (ap (group_runs group) t ∙ c.runs)
          (record {
            place = 0;
            offset = 0;
            used = 8;
            bytes₁ = 0 ∷ [];
            bytes₂ = 1 ∷ [];
            count = refl;
            reads₁ = c.reads₂ 0;
            reads₂ = c.reads₂ 1;
            output_size = c.size₂;
            profile = c.profile₂;
          })
      at (suc (suc (suc zero))) l = same c.same₃
      at (suc (suc (suc (suc k)))) l = absurd (omega (arith, c.size 0))

  -- nothing is attested, and what is protected is for a group program
  premise : Premise byte_steers group (elements 0) (elements 1)
  unfolding kind_in filled inside group
  premise = at
    where
      unattested : (kind : ℕ) (k : ℕ) → kind_in (read (element_at (elements 0) k).bytes) ≡ kind → (kind ≡ 9 → ⊥)
          → (o n used : ℕ) → read (element_at (elements 0) k).bytes ≡ whole (attest o n) used → ⊥
      unattested kind k q m o n used r = m (sym q ∙ ap kind_in r)

      unprotected : (kind : ℕ) (k : ℕ) → kind_in (read (element_at (elements 0) k).bytes) ≡ kind → (kind ≡ 11 → ⊥)
          → (i o n : ℕ) (d : Draw) (used : ℕ) → read (element_at (elements 0) k).bytes ≡ whole (protect i o n d) used → ⊥
      unprotected kind k q m i o n d used r = m (sym q ∙ ap kind_in r)

      neither : (kind : ℕ) (k : ℕ) {t u : Tables} → kind_in (read (element_at (elements 0) k).bytes) ≡ kind → (kind ≡ 9 → ⊥)
          → (kind ≡ 11 → ⊥) → PremiseAt byte_steers group t u (element_at (elements 0) k)
      neither kind k q a p =
          record {
            attests = λ g o n used r. absurd (unattested kind k q a o n used r);
            protects = λ g i o n d used r. absurd (unprotected kind k q p i o n d used r);
          }

      at : Premise byte_steers group (elements 0) (elements 1)
      at zero l = neither 1 0 (ap kind_in (c.reads₀ 0)) (λ e. omega arith) (λ e. omega arith)
      at (suc zero) l = neither 14 1 (ap kind_in (c.reads₁ 0)) (λ e. omega arith) (λ e. omega arith)
      at (suc (suc zero)) l = neither 5 2 (ap kind_in (c.reads₂ 0)) (λ e. omega arith) (λ e. omega arith)
      at (suc (suc (suc zero))) l =
          record {
            attests = λ g o n used r. absurd (unattested 11 3 (ap kind_in (c.reads₃ 0)) (λ e. omega arith) o n used r);
            protects = λ g i o n d used r out.
                let q : whole (protect 1 0 1 (record { 0 = 7 })) 22 ≡ whole (protect i o n d) used = sym (c.reads₃ 0) ∙ r in
                let e : 1 ≡ i = cc in
                clash (inside group 1) refl (ap (inside group) e ∙ out);
          }
      at (suc (suc (suc (suc k)))) l = absurd (omega (arith, c.size 0))

  told : (b : ℕ) → (answer_at byte_steers (elements b) 3).number ≡ handle_for b
  unfolding answer_at byte_steers handle_for laid
  told b =
      let es = elements b in
      let t = before_same es 3 (omega (arith, c.size b)) (unsteered b) in
      ap (λ x. (call_on x (steered x (element_at es 3))).answer.number) t
      ∙ ap (λ r. r.answer.number) (call_is (state_before es 3) (steered (tables (state_before es 3)) (element_at es 3)) (valid_before es 3))

-- a protect is no chain
no_chain : (t : Tables) → own_chain group t (element_at (elements 0) 3) ≡ false
unfolding own_chain is_chain filled
no_chain t = and_false (group_runs group t) _ (ap is_chain (computed.reads₃ 0))

pub tells_the_byte : TellsTheByte
tells_the_byte secret =
    let c = computed in
    let same = ((secret group (elements 0) (elements 1) (alike c) (premise c)).answers 3 (omega (arith, c.size 0))).number (no_chain _) in
    let z : 2 ^ 48 + 7 ≡ 2 ^ 48 + 8 = sym (told c 0 ∙ c.handle₁) ∙ same ∙ told c 1 ∙ c.handle₂ in
    omega arith
