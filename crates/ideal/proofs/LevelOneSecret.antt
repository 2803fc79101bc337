-- Demand 3 of the level-one box: in two runs the same calls are barred, with the same numbers. Assumes nothing.
use Prim.Native.Nat.{ℕ}
use mathlib.Core.Path.{◌≡◌, refl, sym, ap, ◌∙◌, subst, subst₂}
use mathlib.Core.Bool.{Bool, true, false, false≢true}
use native.Mathlib.Omega.{arith}
use lib.Dec.{eqb}
use borrow.Author.Tests.{eqb-true}
use Rattle.record.specs.Call.{Call, create, exit, heap_write, heap_read, shared_write, shared_read, attest, check, protect, retrieve, report, hand_over, chain, release}
use Rattle.record.specs.Read.{Reading, refused, whole, read}
use Rattle.record.specs.Write.{filled}
use Rattle.ideal.specs.State.{State}
use Rattle.ideal.specs.Step.{beyond, refused_answer}
use Rattle.ideal.specs.Tables.{Tables, tables}
use Rattle.ideal.specs.Box.{Element, Result, unsound, box_by, call_on}
use Rattle.ideal.specs.Valid.{Valid}
use Rattle.ideal.specs.Secrecy.{group_runs, AlikeAt, same, other_bytes, PremiseAt, Exemption, is_chain, own_chain, SecrecyBut, Secrecy}
use Rattle.ideal.specs.Fakes.{kind_in, used_in, reply}
use Rattle.ideal.specs.LevelOne.{logged_other, level_one_on}
use Rattle.ideal.specs.LevelOneDemands.{none_exempt}
use Rattle.lists.proofs.Bools.{by_cases, clash, and_false}
use Rattle.ideal.proofs.Laid.{ready_is, state_tables}
use Rattle.ideal.proofs.TwoStates.{SameBut, same_idle, same_caller}
use Rattle.ideal.proofs.TwoRuns.{Stepped}
use Rattle.ideal.proofs.Secret.{held, known_attest, told, Related, exempt_more}
use Rattle.ideal.proofs.FakedSecret.{Keeps, secret, premise_as, keeps_call, keeps_reply, common_used, as_other}
use Rattle.ideal.proofs.OwnRefusals.{then23, barred_with}
use Rattle.ideal.proofs.Yields.{barred_reading, barred_in, as_full, barred, yields}

-- ---- the level-one box, by level one's own refusal

pub full_where : (t : Tables) (e : Element) → eqb (barred_in t e) 0 ≡ true → level_one_on t e ≡ call_on t e
full_where t e h =
    elim (yields t e) [
      | as_full n q ↦ q
      | barred s c used r b z q ↦ clash _ (rw b at h) z
    ]

barred_where : (t : Tables) (e : Element) → eqb (barred_in t e) 0 ≡ false → level_one_on t e ≡ reply t (barred_in t e) 0 (used_in (read e.bytes))
unfolding reply used_in refused_answer
barred_where t e h =
    elim (yields t e) [
      | as_full n q ↦ clash (eqb (barred_in t e) 0) (rw n) h
      | barred s c used r b z q ↦ rw (q, b, r)
    ]

-- ---- in two runs it is the same

-- the premise at an attest speaks of no code
attest_premise : {box other : Tables → Element → Result} {G : ℕ → Bool} {x y : Tables} {e : Element} {o n u : ℕ}
    → read e.bytes ≡ whole (attest o n) u → PremiseAt box G x y e → PremiseAt other G x y e
unfolding kind_in filled
attest_premise q p =
    record {
      attests = p.attests;
      protects = λ g i o n d u r out z. absurd (let m : 9 ≡ 11 = ap kind_in (sym q ∙ r) in omega arith);
    }

module _ (G : ℕ → Bool) {s t : State} (k : SameBut (held G) s t) (v : Valid s) (w : Valid t) (e : Element)
    (p : PremiseAt level_one_on G (tables s) (tables t) e) where
  same_attest : eqb e.output_size 1024 ≡ true → (o n u : ℕ) → read e.bytes ≡ whole (attest o n) u
      → barred_with s (attest o n) ≡ barred_with t (attest o n)
  unfolding barred_with then23 logged_other
  same_attest x o n u r =
      let none = told G k v w e (attest_premise r p) x (attest o n) u r in
      by_cases (beyond 256 o n) (λ b. rw (same_idle (held G) k, b))
      (λ b. rw (same_idle (held G) k, same_caller (held G) k, known_attest (held G) k o n none b, k.log))

  same_call : eqb e.output_size 1024 ≡ true → (c : Call) (u : ℕ) → read e.bytes ≡ whole c u → barred_with s c ≡ barred_with t c
  unfolding barred_with
  same_call x (create q i) u r = refl
  same_call x exit u r = refl
  same_call x (heap_write q o b) u r = refl
  same_call x (heap_read q o n) u r = refl
  same_call x (shared_write o b) u r = refl
  same_call x (shared_read o n) u r = refl
  same_call x (attest o n) u r = same_attest x o n u r
  same_call x (check i g b) u r = refl
  same_call x (protect i o n d) u r = refl
  same_call x (retrieve i o h) u r = refl
  same_call x report u r = refl
  same_call x (hand_over q) u r = refl
  same_call x (chain first b) u r = refl
  same_call x (release i h) u r = refl

  same_reading : eqb e.output_size 1024 ≡ true → (r : Reading) → read e.bytes ≡ r → barred_reading s r ≡ barred_reading t r
  unfolding barred_reading
  same_reading x (refused code n) q = refl
  same_reading x (whole c u) q = same_call x c u q

  same_barred : (f : Element) → AlikeAt G (tables s) e f → barred_in (tables s) e ≡ barred_in (tables t) f
  unfolding barred_in barred_reading barred_with
  same_barred f (same q) =
      rw (← q, ready_is s e.output_size v, ready_is t e.output_size w, state_tables s v, state_tables t w)
      (by_cases (eqb e.output_size 1024) (λ x. rw x (same_reading x (read e.bytes) refl)) (λ x. rw x))
  same_barred f (other_bytes g h) =
      rw (← h.output_size, ready_is s e.output_size v, ready_is t e.output_size w, h.reads₁, h.reads₂)

-- ---- the statement

alike : {G : ℕ → Bool} {x y : Tables} {e f : Element} → Related G x y → AlikeAt G x e f → PremiseAt level_one_on G x y e
    → barred_in x e ≡ barred_in y f
alike {G} {e = e} {f = f} r =
    subst₂ (λ x y. AlikeAt G x e f → PremiseAt level_one_on G x y e → barred_in x e ≡ barred_in y f) r.is₁ r.is₂
    (λ a p. same_barred G r.same r.valid₁ r.valid₂ e p f a)

same_size : {G : ℕ → Bool} {t : Tables} {e f : Element} → AlikeAt G t e f → e.output_size ≡ f.output_size
same_size (same q) = ap (λ x. x.output_size) q
same_size (other_bytes g h) = h.output_size

chain_barred : (s : State) (r : Reading) → is_chain r ≡ true → barred_reading s r ≡ 21
unfolding is_chain barred_reading barred_with filled
chain_barred s (refused code n) h = absurd (false≢true h)
chain_barred s (whole (create p i) u) h = absurd (false≢true h)
chain_barred s (whole exit u) h = absurd (false≢true h)
chain_barred s (whole (heap_write p o v) u) h = absurd (false≢true h)
chain_barred s (whole (heap_read p o n) u) h = absurd (false≢true h)
chain_barred s (whole (shared_write o v) u) h = absurd (false≢true h)
chain_barred s (whole (shared_read o n) u) h = absurd (false≢true h)
chain_barred s (whole (attest o n) u) h = absurd (false≢true h)
chain_barred s (whole (check i g v) u) h = absurd (false≢true h)
chain_barred s (whole (protect i o n d) u) h = absurd (false≢true h)
chain_barred s (whole (retrieve i o g) u) h = absurd (false≢true h)
chain_barred s (whole report u) h = absurd (false≢true h)
chain_barred s (whole (hand_over p) u) h = absurd (false≢true h)
chain_barred s (whole (chain first v) u) h = refl
chain_barred s (whole (release i g) u) h = absurd (false≢true h)

-- where none of its own is given to a chain, the box is not lent an output buffer of its size
chain_unlent : (s t : State) (e f : Element) → Valid s → Valid t → e.output_size ≡ f.output_size → is_chain (read e.bytes) ≡ true
    → barred_in (tables s) e ≡ 0 → (call_on (tables s) e).answer ≡ (call_on (tables t) f).answer
unfolding barred_in box_by unsound
chain_unlent s t e f v w q c b =
    by_cases (eqb e.output_size 1024)
    (λ z.
    let n : barred_reading s (read e.bytes) ≡ 0 = rw (ready_is s e.output_size v, z, state_tables s v) at b in
    absurd (omega (arith, sym (chain_barred s (read e.bytes) c) ∙ n)))
    (λ z. rw (← q, ready_is s e.output_size v, ready_is t e.output_size w, z))

-- so that no answer is exempt
as_in_full : {G : ℕ → Bool} {x y : Tables} {e f : Element} → Related G x y → AlikeAt G x e f → PremiseAt call_on G x y e
    → barred_in x e ≡ 0 → Stepped none_exempt call_on G (Related G) x y e f
unfolding own_chain
as_in_full {G} {x} {y} {e} {f} r a p b =
    let o = keeps_call.both r a p in
    let same : is_chain (read e.bytes) ≡ true → (call_on x e).answer ≡ (call_on y f).answer =
    λ c.
    subst₂ (λ x y. barred_in x e ≡ 0 → (call_on x e).answer ≡ (call_on y f).answer) r.is₁ r.is₂
    (chain_unlent r.first r.second e f r.valid₁ r.valid₂ (same_size a) c) b in
    by_cases (is_chain (read e.bytes))
    (λ c.
    record {
      answer =
          record {
            code = λ _. ap (λ z. z.code) (same c);
            number = λ _. ap (λ z. z.number) (same c);
            used = o.answer.used;
            shown = o.answer.shown;
          };
      after = o.after;
    })
    (λ c.
    let q : own_chain G x e ≡ false = and_false (group_runs G x) _ c in
    record { answer = exempt_more {x = false} (λ f. absurd (false≢true f)) (rw q at o.answer); after = o.after })

pub keeps : Keeps none_exempt level_one_on
keeps =
    record {
      both = λ {x = x} {y = y} {e = e} {f = f} r a p.
          let n = barred_in x e in
          let q : n ≡ barred_in y f = alike r a p in
          by_cases (eqb n 0)
          (λ h.
          let u = full_where x e h in
          let o = as_in_full r a (premise_as (ap (λ z. z.answer.code) u) p) (eqb-true n 0 h) in
          record { answer = rw (u, full_where y f (rw (← q) h)) o.answer; after = rw (u, full_where y f (rw (← q) h)) o.after })
          (λ h.
          as_other {at = none_exempt} (keeps_reply n 0 common_used) refl (barred_where x e h)
          (subst (λ m. level_one_on y f ≡ reply y m 0 (used_in (read f.bytes))) (sym q) (barred_where y f (rw (← q) h))) r a p);
    }

pub level_one_secrecy : SecrecyBut none_exempt level_one_on
level_one_secrecy = secret keeps

-- what is shown where less is exempt
pub but_less : {less more : Exemption} {box : Tables → Element → Result}
    → ((G : ℕ → Bool) (t : Tables) (e : Element) → less G t e ≡ true → more G t e ≡ true) → SecrecyBut less box → SecrecyBut more box
but_less h k G es fs a p =
    let q = k G es fs a p in
    record { answers = λ n l. exempt_more (h G _ _) (q.answers n l); end = q.end }

pub level_one_exempt : Secrecy level_one_on
level_one_exempt = but_less (λ G t e f. absurd (false≢true f)) level_one_secrecy
