-- The fakes satisfy secrecy: at each call a fake does what the definition does, or what two runs do alike. Assumes nothing.
use Prim.Native.Nat.{ℕ}
use mathlib.Core.Path.{◌≡◌, refl, sym, ap, ◌∙◌, subst, subst₂}
use mathlib.Core.Bool.{Bool, true, false, not, ◌&&◌, false≢true}
use mathlib.Core.List.{List, [], ◌∷◌, reverse, reverse-cons}
use native.Mathlib.Omega.{arith}
use lib.ListN.{length-reverse}
use lib.Dec.{eqb, ltb}
use borrow.Author.Tests.{eqb-true, eqb-false, not-true}
use Rattle.record.specs.declared.Draw.{Draw}
use Rattle.record.specs.Call.{create, exit, heap_write, heap_read, shared_write, shared_read, attest, check, protect, retrieve, report, hand_over, chain, release}
use Rattle.record.specs.Read.{Reading, refused, whole, read}
use Rattle.record.specs.Write.{filled}
use Rattle.ideal.specs.declared.BoxRecord.{BoxRecord}
use Rattle.ideal.specs.State.{Entry, Logged, State, any, every, bytes_used}
use Rattle.ideal.specs.Step.{with_common, is_pair, tests, refusal}
use Rattle.ideal.specs.Tables.{Tables, tables, state_of}
use Rattle.ideal.specs.Soundness.{differ, same_pair}
use Rattle.ideal.specs.Box.{Element, Result, laid, call_on}
use Rattle.ideal.specs.Layouts.{Sound}
use Rattle.ideal.specs.Valid.{Valid}
use Rattle.ideal.specs.Secrecy.{group_runs, is_chain, AlikeAt, same, other_bytes, PremiseAt, Exemption, own_chain, SecrecyBut}
use Rattle.ideal.specs.Fakes.{kind_in, used_in, reply, faked, always, of_kind, says, fixed_reply, turned, SatisfySecrecy}
use Rattle.lists.proofs.Bools.{by_cases, clash, and_left, and_right, or_false, or_false_left, or_false_right}
use Rattle.lists.proofs.Lists.{any_append, any_one, every_more}
use Rattle.ideal.proofs.Lists.{bytes_more, differ_more}
use Rattle.ideal.proofs.Entries.{Good, log_of_lem, escrow_of_lem, valid, places_of}
use Rattle.ideal.proofs.Kept.{eqb_comm, same_comm, any_same}
use Rattle.ideal.proofs.Laid.{state_tables, tables_state}
use Rattle.ideal.proofs.TwoRuns.{Stepped, secrecy_of}
use Rattle.ideal.proofs.Secret.{still, held, Related, preserved, related_fresh}
use Rattle.ideal.proofs.TwoStates.{same_idle}
use Rattle.ideal.proofs.TwoEscrows.{same_full}
use Rattle.ideal.proofs.Numbers.{refusals_alter_nothing}
use Rattle.ideal.proofs.Accepts.{sound_of, accepted_answers}
use Rattle.ideal.proofs.OneAnswer.{accepted_reads, box_settles, code_is}
use Rattle.ideal.proofs.Faked.{faked_is, faked_not}

-- ---- boxes whose calls keep two runs related

pub record Keeps (exempt : Exemption) (box : Tables → Element → Result) : Type 0 where
  pub both : {G : ℕ → Bool} {x y : Tables} {e f : Element} → Related G x y → AlikeAt G x e f → PremiseAt box G x y e
      → Stepped exempt box G (Related G) x y e f

pub secret : {exempt : Exemption} {box : Tables → Element → Result} → Keeps exempt box → SecrecyBut exempt box
secret {exempt} {box} k G = secrecy_of exempt box G (record { agrees = (preserved G).agrees; both = k.both }) (related_fresh G)

-- the premise speaks of the box's code alone
pub premise_as : {box other : Tables → Element → Result} {G : ℕ → Bool} {x y : Tables} {e : Element}
    → (box x e).answer.code ≡ (other x e).answer.code → PremiseAt box G x y e → PremiseAt other G x y e
premise_as q p =
    record { attests = p.attests; protects = λ g i o n d u r out z. p.protects g i o n d u r out (q ∙ z) }

-- what is the same in two runs
pub record Common {A : Type 0} (of : Tables → Element → A) : Type 0 where
  pub at : {G : ℕ → Bool} {x y : Tables} {e f : Element} → Related G x y → AlikeAt G x e f → of x e ≡ of y f

pub keeps_call : Keeps own_chain call_on
keeps_call = record { both = λ {G} r a p. (preserved G).both r a p }

pub keeps_reply : {exempt : Exemption} (code number : ℕ) {used : Tables → Element → ℕ} → Common used → Keeps exempt (λ t e. reply t code number (used t e))
unfolding reply
keeps_reply code number c =
    record {
      both = λ r a p.
          record {
            answer = record { code = λ _. refl; number = λ _. refl; used = c.at r a; shown = λ _. refl };
            after = r;
          };
    }

-- the definition's answer, and tables altered alike
keeps_answer : (m : Tables → Tables) → ((G : ℕ → Bool) (x y : Tables) → Related G x y → Related G (m x) (m y))
    → Keeps own_chain (λ t e. record { tables = m t; answer = (call_on t e).answer })
keeps_answer m h =
    record {
      both = λ {G} r a p. record { answer = ((preserved G).both r a (premise_as refl p)).answer; after = h G _ _ r };
    }

-- a box that does at a call what another does
pub as_other : {exempt at : Exemption} {box other : Tables → Element → Result} {G : ℕ → Bool} {x y : Tables} {e f : Element}
    → Keeps at other → exempt G x e ≡ at G x e → box x e ≡ other x e → box y f ≡ other y f → Related G x y → AlikeAt G x e f
    → PremiseAt box G x y e → Stepped exempt box G (Related G) x y e f
as_other k q u v r a p =
    let o = k.both r a (premise_as (ap (λ z. z.answer.code) u) p) in
    record { answer = rw (q, u, v) o.answer; after = rw (u, v) o.after }

-- ---- what two runs have in common

same_kind : {G : ℕ → Bool} {t : Tables} {e f : Element} → AlikeAt G t e f → kind_in (read e.bytes) ≡ kind_in (read f.bytes)
unfolding kind_in filled
same_kind (same q) = ap (λ x. kind_in (read x.bytes)) q
same_kind (other_bytes g h) = rw (h.reads₁, h.reads₂)

same_used : {G : ℕ → Bool} {t : Tables} {e f : Element} → AlikeAt G t e f → used_in (read e.bytes) ≡ used_in (read f.bytes)
unfolding used_in
same_used (same q) = ap (λ x. used_in (read x.bytes)) q
same_used (other_bytes g h) = rw (h.reads₁, h.reads₂)

pub common_used : Common (λ t e. used_in (read e.bytes))
common_used = record { at = λ r a. same_used a }

kind_test : (kind : ℕ) → Common (λ t e. eqb (kind_in (read e.bytes)) kind)
kind_test kind = record { at = λ r a. ap (λ n. eqb n kind) (same_kind a) }

box_test : (test : BoxRecord → Bool) → Common (λ t e. test t.box)
box_test test = record { at = λ {G} r a. ap test ((preserved G).agrees r).box }

always_test : Common always
always_test = record { at = λ r a. refl }

both_tests : {f g : Tables → Element → Bool} → Common f → Common g → Common (λ t e. f t e && g t e)
both_tests f g = record { at = λ r a. rw (f.at r a, g.at r a) }

-- ---- what the definition accepts in one run it accepts in the other, but for exempt chains

data View (r : Reading) : Type 0 where
  a_protect : (i o n : ℕ) (d : Draw) (used : ℕ) → r ≡ whole (protect i o n d) used → View r
  another : (kind_in r ≡ 11 → ⊥) → View r

view : (r : Reading) → View r
unfolding kind_in filled
view (refused code n) = another (λ z. omega arith)
view (whole (create p i) u) = another (λ z. omega arith)
view (whole exit u) = another (λ z. omega arith)
view (whole (heap_write p o v) u) = another (λ z. omega arith)
view (whole (heap_read p o n) u) = another (λ z. omega arith)
view (whole (shared_write o v) u) = another (λ z. omega arith)
view (whole (shared_read o n) u) = another (λ z. omega arith)
view (whole (attest o n) u) = another (λ z. omega arith)
view (whole (check i g v) u) = another (λ z. omega arith)
view (whole (protect i o n d) u) = a_protect i o n d u refl
view (whole (retrieve i o h) u) = another (λ z. omega arith)
view (whole report u) = another (λ z. omega arith)
view (whole (hand_over p) u) = another (λ z. omega arith)
view (whole (chain first v) u) = another (λ z. omega arith)
view (whole (release i h) u) = another (λ z. omega arith)

module _ {G : ℕ → Bool} {x y : Tables} {e f : Element} (r : Related G x y) (a : AlikeAt G x e f) where
  -- only of a protect the premise asks for the code
  premise_but : {other : Tables → Element → Result} → (kind_in (read e.bytes) ≡ 11 → ⊥) → PremiseAt other G x y e → PremiseAt call_on G x y e
  unfolding kind_in filled
  premise_but n p = record { attests = p.attests; protects = λ g i o m d u q out z. absurd (n (ap kind_in q)) }

  same_element : (k : ℕ) → (k ≡ 5 → ⊥) → kind_in (read e.bytes) ≡ k → e ≡ f
  unfolding kind_in filled
  same_element k n q =
      elim a [ same z ↦ z | other_bytes g h ↦ absurd (n (sym q ∙ ap kind_in h.reads₁)) ]

  protect_code : (i o n : ℕ) (d : Draw) (u : ℕ) → read e.bytes ≡ whole (protect i o n d) u
      → (call_on x e).answer.code ≡ (call_on y e).answer.code
  unfolding refusal tests
  protect_code i o n d u q =
      let s = r.first in
      let t = r.second in
      let k = r.same in
      let same : refusal s (protect i o n d) ≡ refusal t (protect i o n d) =
      rw (same_idle (held G) k, same_full (held G).value n k.escrow) in
      rw (← r.is₁, ← r.is₂, code_is refusal s e (protect i o n d) u r.valid₁ q, code_is refusal t e (protect i o n d) u r.valid₂ q, same)

  same_code : {other : Tables → Element → Result} → PremiseAt other G x y e → own_chain G x e ≡ false
      → (call_on x e).answer.code ≡ (call_on y f).answer.code
  unfolding kind_in filled
  same_code p n =
      elim (view (read e.bytes)) [
        | a_protect i o m d u q ↦ protect_code i o m d u q
            ∙ ap (λ z. (call_on y z).answer.code) (same_element 11 (λ z. omega arith) (ap kind_in q))
        | another h ↦ (keeps_call.both r a (premise_but h p)).answer.code n
      ]

-- ---- a chain alters nothing

chain_kind : (r : Reading) → is_chain r ≡ true → kind_in r ≡ 15
unfolding is_chain kind_in
chain_kind (refused code n) h = absurd (false≢true h)
chain_kind (whole c u) h = eqb-true _ 15 h

chain_reading : (t : Tables) (e : Element) → Sound t e.output_size → (r : Reading) → read e.bytes ≡ r → is_chain r ≡ true
    → (call_on t e).tables ≡ t
unfolding is_chain laid
chain_reading t e h (refused code n) q c = absurd (false≢true c)
chain_reading t e h (whole c u) q k =
    ap (λ x. x.tables) (box_settles refusal t e h c u q)
    ∙ ap tables (still (state_of t) (refusal (state_of t) c) c u k).0 ∙ tables_state t _ h

chain_still : (t : Tables) (e : Element) → is_chain (read e.bytes) ≡ true → (call_on t e).tables ≡ t
chain_still t e c =
    by_cases (eqb (call_on t e).answer.code 0)
    (λ z. chain_reading t e (sound_of t e (eqb-true _ 0 z)) (read e.bytes) refl c)
    (λ z. (refusals_alter_nothing t e (eqb-false _ 0 z)).tables)

used_read : (t : Tables) (e : Element) → (call_on t e).answer.code ≡ 0 → used_in (read e.bytes) ≡ (call_on t e).answer.used
unfolding used_in
used_read t e z =
    let w = accepted_reads t e z in
    ap used_in w.reads ∙ sym (accepted_answers t e w.call w.used w.reads z).used

-- ---- a fake

-- at a chain that the definition accepts
record Still (fake : Tables → Element → Result) (t : Tables) (e : Element) : Type 0 where
  tables : (fake t e).tables ≡ t
  used : (fake t e).answer.used ≡ (call_on t e).answer.used

module _ {test : Tables → Element → Bool} {fake : Tables → Element → Result}
    (rest : (t : Tables) (e : Element) → is_chain (read e.bytes) ≡ true → (call_on t e).answer.code ≡ 0 → test t e ≡ true → Still fake t e) where
  faked_still : (t : Tables) (e : Element) → is_chain (read e.bytes) ≡ true → Still (faked test fake) t e
  unfolding faked
  faked_still t e c =
      by_cases (eqb (call_on t e).answer.code 0 && test t e)
      (λ h.
      let z = eqb-true _ 0 (and_left (eqb (call_on t e).answer.code 0) _ h) in
      let s = rest t e c z (and_right (eqb (call_on t e).answer.code 0) _ h) in
      record { tables = rw h s.tables; used = rw h s.used })
      (λ h. record { tables = rw h (chain_still t e c); used = rw h })

  keeps_faked : Common test → Keeps own_chain fake → Keeps own_chain (faked test fake)
  unfolding own_chain kind_in
  keeps_faked common k =
      record {
        both = λ {G} {x} {y} {e} {f} r a p.
            by_cases (own_chain G x e)
            (λ own.
            let c = and_right (group_runs G x) _ own in
            let q = same_element r a 15 (λ z. omega arith) (chain_kind _ c) in
            let here = faked_still x e c in
            let there = subst (λ z. Still (faked test fake) y z) q (faked_still y e c) in
            let o = keeps_call.both r a (premise_but r a (λ z. omega (arith, sym (chain_kind _ c) ∙ z)) p) in
            record {
              answer =
                  record {
                    code = λ z. clash _ own z;
                    number = λ z. clash _ own z;
                    used = here.used ∙ o.answer.used ∙ sym there.used;
                    shown = λ z. clash (group_runs G x) (and_left (group_runs G x) _ own) z;
                  };
              after = subst₂ (λ z w. Related G z w) (sym here.tables) (sym there.tables) r;
            })
            (λ n.
            let q : (eqb (call_on x e).answer.code 0 && test x e) ≡ (eqb (call_on y f).answer.code 0 && test y f) =
            rw (same_code r a p n, common.at r a) in
            by_cases (eqb (call_on x e).answer.code 0 && test x e)
            (λ h. as_other k refl (faked_is test fake x e h) (faked_is test fake y f (sym q ∙ h)) r a p)
            (λ h. as_other keeps_call refl (faked_not test fake x e h) (faked_not test fake y f (sym q ∙ h)) r a p));
      }

keeps_says : {test : Tables → Element → Bool} (code number : ℕ) → Common test → Keeps own_chain (faked test (says code number))
unfolding reply
keeps_says code number c =
    keeps_faked (λ t e ch z h. record { tables = refl; used = used_read t e z }) c (keeps_reply code number common_used)

-- the right tables
keeps_fixed : (n : ℕ) → Keeps own_chain (fixed_reply n)
unfolding reply
keeps_fixed n =
    keeps_faked (λ t e c z h. record { tables = chain_still t e c; used = used_read t e z }) always_test
    (record {
      both = λ r a p.
          let o = keeps_call.both r a
          (record { attests = p.attests; protects = λ g i o m d u q out z. p.protects g i o m d u q out refl }) in
          record {
            answer = record { code = λ _. refl; number = λ _. refl; used = same_used a; shown = λ _. refl };
            after = o.after;
          };
    })

-- ---- the log turned round

module _ {A : Type 0} where
  any_reverse : (p : A → Bool) (l : List A) → any p l ≡ false → any p (reverse l) ≡ false
  unfolding any
  any_reverse p [] h = h
  any_reverse p (a ∷ l) h =
      ap (any p) (reverse-cons a l) ∙ any_append p (reverse l) (a ∷ [])
      ∙ or_false _ _ (any_reverse p l (or_false_right (p a) _ h)) (any_one p a ∙ or_false_left (p a) _ h)

  every_reverse : (p : A → Bool) (l : List A) → every p l ≡ true → every p (reverse l) ≡ true
  unfolding every
  every_reverse p [] h = h
  every_reverse p (a ∷ l) h =
      ap (every p) (reverse-cons a l) ∙ every_more p (reverse l) a (every_reverse p l (and_right (p a) _ h)) (and_left (p a) _ h)

  differ_reverse : (like : A → A → Bool) → ((a b : A) → like a b ≡ like b a) → (l : List A) → differ like l ≡ true
      → differ like (reverse l) ≡ true
  unfolding differ
  differ_reverse like c [] h = h
  differ_reverse like c (a ∷ l) h =
      let none = not-true (any (like a) l) (and_left _ _ h) in
      ap (differ like) (reverse-cons a l)
      ∙ differ_more like (reverse l) a (differ_reverse like c l (and_right (not (any (like a) l)) _ h))
      (any_reverse _ l (any_same _ (like a) l (λ b. c b a) ∙ none))

bytes_reverse : {Key : Type 0} (l : List (Entry Key)) → bytes_used (reverse l) ≡ bytes_used l
unfolding bytes_used
bytes_reverse [] = refl
bytes_reverse (e ∷ l) =
    let h = bytes_reverse l in
    ap bytes_used (reverse-cons e l) ∙ bytes_more (reverse l) e ∙ omega arith

good_reverse : {Key : Type 0} {ok : Entry Key → Bool} {like : Entry Key → Entry Key → Bool} {l : List (Entry Key)}
    → ((a b : Entry Key) → like a b ≡ like b a) → Good ok like l → Good ok like (reverse l)
good_reverse {l} c g =
    record {
      few = rw (length-reverse l) g.few;
      fits = rw (bytes_reverse l) g.fits;
      short = every_reverse _ l g.short;
      good = every_reverse _ l g.good;
      apart = differ_reverse _ c l g.apart;
    }

pair_comm : (r q : Logged) → same_pair r q ≡ same_pair q r
unfolding same_pair is_pair
pair_comm r q = rw (eqb_comm r.key.identity q.key.identity, same_comm r.value q.value)

abbrev turn : State → State
turn s = with_common s s.shared (reverse s.log) s.escrow

valid_turn : (s : State) → Valid s → Valid (turn s)
valid_turn s k = valid (turn s) (places_of k) k.shared (good_reverse pair_comm (log_of_lem k)) (escrow_of_lem k)

turned_tables : (s : State) → Valid s → tables (turn s) ≡ turned (tables s)
unfolding turned
turned_tables s k = ap (λ x. tables (turn x)) (sym (state_tables s k))

turned_related : (G : ℕ → Bool) (x y : Tables) → Related G x y → Related G (turned x) (turned y)
turned_related G x y r =
    let s = r.first in
    let t = r.second in
    let k = r.same in
    record {
      first = turn s;
      second = turn t;
      valid₁ = valid_turn s r.valid₁;
      valid₂ = valid_turn t r.valid₂;
      is₁ = turned_tables s r.valid₁ ∙ ap turned r.is₁;
      is₂ = turned_tables t r.valid₂ ∙ ap turned r.is₂;
      same =
          record {
            identities = k.identities;
            running = k.running;
            heaps = k.heaps;
            shared = k.shared;
            log = ap reverse k.log;
            escrow = k.escrow;
          };
    }

-- ---- the fakes

no_chain : (t : Tables) (e : Element) → is_chain (read e.bytes) ≡ true → of_kind 13 t e ≡ true → ⊥
no_chain t e c h = omega (arith, sym (chain_kind (read e.bytes) c) ∙ eqb-true _ 13 h)

pub satisfy_secrecy : SatisfySecrecy
satisfy_secrecy =
    record {
      refuses_each_fault = secret (keeps_says 4 0 always_test);
      fixed_reply_fault = λ n. secret (keeps_fixed n);
      invents_totals_fault = λ n. secret (keeps_says 0 n (kind_test 13));
      touches_nothing_fault = secret (keeps_answer (λ t. t) (λ G x y r. r));
      serves_the_first_fault = secret (keeps_says 0 0 (box_test (λ b. not (eqb b.taken 0))));
      says_not_there_fault = secret (keeps_says 10 0 (kind_test 12));
      recovers_nothing_later_fault = secret (keeps_says 10 0 (both_tests (kind_test 12) (box_test (λ b. ltb 40 b.escrow.rows))));
      says_log_full_fault = secret (keeps_says 13 0 (kind_test 9));
      says_escrow_full_fault = secret (keeps_says 14 0 (kind_test 11));
      turns_log_round_fault =
          secret (keeps_faked (λ t e c z h. absurd (no_chain t e c h)) (kind_test 13) (keeps_answer turned turned_related));
    }
