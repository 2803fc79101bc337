-- What a chain says of history. Assumes nothing.
use Prim.Native.Nat.{ℕ, ◌-◌, ◌≤◌}
use mathlib.Core.Path.{◌≡◌, refl, sym, ap, ◌∙◌, subst}
use mathlib.Core.List.{List}
use native.Mathlib.Omega.{arith}
use lib.ListN.{length, get_or}
use borrow.Author.Tests.{eqb-false, ne_eqb}
use Rattle.record.specs.Call.{Link, identity_of, Call, chain}
use Rattle.record.specs.Read.{whole, read}
use Rattle.ideal.specs.State.{State}
use Rattle.ideal.specs.Step.{found, idle, follow, tests, first_holding, refusal, number}
use Rattle.ideal.specs.Box.{Element, call_on, element_at}
use Rattle.ideal.specs.Accuracy.{LinkValue, link_at, Says, Sized, Runs, Vouched, was_logged, was_escrowed, Custody, ChainIsAccurate}
use Rattle.ideal.proofs.Passing.{failed, passed}
use Rattle.ideal.proofs.Runs.{state_before, running_before, accepted_at_lem, accepts_at, Accepted, number_at_lem}
use Rattle.ideal.proofs.Logs.{logged_since}
use Rattle.ideal.proofs.Checks.{logs_named}
use Rattle.ideal.proofs.Retrieves.{found_since, protects_named}
use Rattle.ideal.proofs.Followed.{Known, in_log, in_escrow_lem, Stands, of_tests, to_tests, Links, links_of, followed_of}

module _ (es : List Element) (k : ℕ) where
  abbrev s : State
  s = state_before es k

  -- ---- a link on the state, and in history

  vouched_of : (h : LinkValue) → Known s.log (found s) h → Vouched call_on es k h
  vouched_of h (in_log {i = i} {g = g} w y) = was_logged w ((logged_since es i g h.value k).0 y)
  vouched_of h (in_escrow_lem {i = i} {g = g} e w is value) =
      was_escrowed w ((found_since es k i g h.value).0 (record { entry = e; is = is; value = value }))

  stands_of : (h : LinkValue) → Vouched call_on es k h → Stands s.log (found s) h
  unfolding identity_of
  stands_of h (was_logged {i = i} {tag = g} w x) =
      record {
        named = λ z. logs_named es x.index i g h.value x.there (ap identity_of (sym w) ∙ z);
        known = in_log w ((logged_since es i g h.value k).1 x);
      }
  stands_of h (was_escrowed {i = i} {handle = g} w x) =
      let f = (found_since es k i g h.value).1 x in
      record {
        named = λ z. (protects_named es x.index i _ g h.value x.there).source (ap identity_of (sym w) ∙ z);
        known = in_escrow_lem f.entry w f.is f.value;
      }

  custody_of : (first : Link) (v : List ℕ) (hs : List LinkValue) (n : ℕ) → length hs ≡ n → n ≤ 16 → Links s.log (found s) first v hs
      → Custody call_on es k first v n
  custody_of first v hs n q few l =
      subst (λ m. Custody call_on es k first v m) q
      (record {
        links = hs;
        count = refl;
        least = l.least;
        most = omega arith;
        begins = l.begins;
        leads = l.leads;
        ends = l.ends;
        vouched = λ j b. vouched_of (link_at hs j) (l.stands j b).known;
        bytes = l.bytes;
      })

  links_in : (first : Link) (v : List ℕ) (n : ℕ) (c : Custody call_on es k first v n) → Links s.log (found s) first v c.links
  links_in first v n c =
      let count = c.count in
      record {
        least = omega (arith, c.least);
        begins = c.begins;
        leads = λ j b. c.leads j (omega arith);
        ends = subst (λ m. get_or (link_at c.links (m - 1)).value 0 0 ≡ 1) (sym count) c.ends;
        stands = λ j b. stands_of (link_at c.links j) (c.vouched j (omega arith));
        bytes = c.bytes;
      }

module _ (es : List Element) (k : ℕ) (first : Link) (v : List ℕ) (used : ℕ)
    (reads : read (element_at es k).bytes ≡ whole (chain first v) used) (n : ℕ) where
  abbrev c : Call
  c = chain first v

  said : Says call_on es n k → Sized call_on es k × Runs call_on es k × Custody call_on es k first v n
  unfolding refusal tests number idle
  said p =
      let t = s es k in
      let a = accepted_at_lem es k c used reads p.0 in
      let runs = eqb-false t.running 16 (failed 3 (idle t) (follow t.log (found t) 16 first v) a.passes) in
      let f = of_tests t.log (found t) 16 first v (passed 3 (idle t) _ a.passes) in
      let count = sym f.count ∙ sym (number_at_lem es k c used a) ∙ p.1 in (
        a.sized,
        λ z. runs (sym (running_before es k) ∙ z),
        custody_of es k first v f.links n count (omega (arith, f.few)) (links_of t.log (found t) f.followed),
      )

  says : Sized call_on es k × Runs call_on es k × Custody call_on es k first v n → Says call_on es n k
  unfolding refusal tests first_holding number idle
  says p =
      let t = s es k in
      let q = p.2 in
      let runs = ne_eqb t.running 16 (λ z. p.1 (running_before es k ∙ z)) in
      let few = q.most in
      let f = followed_of t.log (found t) q.links first v (links_in es k first v n q) in
      let z = to_tests t.log (found t) 16 f (omega (arith, q.count)) in
      let a : Accepted t (element_at es k) c used = record { sized = p.0; reads = reads; passes = rw runs z.0 } in
      (accepts_at es k c used a, number_at_lem es k c used a ∙ z.1 ∙ q.count)

pub chain_is_accurate : ChainIsAccurate call_on
chain_is_accurate es k first v used reads n = (said es k first v used reads n, says es k first v used reads n)
