-- The log holds what earlier accepted attests logged, and nothing else. Assumes nothing.
use Prim.Native.Nat.{ℕ}
use mathlib.Core.Path.{◌≡◌, refl, sym, ◌∙◌}
use mathlib.Core.Logic.{◌↔◌}
use mathlib.Core.Bool.{Bool, true, not, ◌||◌}
use mathlib.Core.List.{List}
use lib.Dec.{eqb}
use borrow.Author.Tests.{eqb-true, eq-eqb}
use Rattle.fnv.specs.declared.Tag.{Tag}
use Rattle.fnv.specs.Fnv.{tag_of}
use Rattle.record.specs.Call.{Call, attest}
use Rattle.ideal.specs.State.{Logged, State, Move, fresh, caller, own_part, any, every}
use Rattle.ideal.specs.Step.{is_pair, is_logged, paired, logged, pair_of, with_pair, move, apply, effect, number}
use Rattle.ideal.specs.Soundness.{right_tag}
use Rattle.ideal.specs.Box.{Element, call_on, element_at}
use Rattle.ideal.specs.Accuracy.{Earlier, LogsAt}
use Rattle.lists.proofs.Bools.{by_cases, and_left, and_right, and_true, or_nil}
use Rattle.lists.proofs.Lists.{same_bytes_lem, same_bytes_refl, any_append, any_one, every_at, any_at, at_any}
use Rattle.ideal.specs.Valid.{Valid}
use Rattle.ideal.proofs.Entries.{good_logged, log_of_lem}
use Rattle.ideal.proofs.Does.{AttestPassed, attest_passed, Does, does_nothing, does_take, does_activate, does_empty, does_write, does_share, does_log, does_escrow, does_release}
use Rattle.ideal.proofs.Runs.{state_before, valid_before, caller_before, own_before, accepted_at_lem, accepts_at, Accepted, number_at_lem}
use Rattle.ideal.proofs.Since.{Effect, same, adds, Fed, AddsAt, since}

data Attests (s : State) : Call → Type 0 where
  attests : {o n : ℕ} → AttestPassed s o n → Attests s (attest o n)

entry : (s : State) (c : Call) → Attests s c → Logged
entry s c (attests {o = o} {n = n} a) = pair_of (caller s) (own_part s o n)

-- nothing that is logged ends
abbrev Unlogs : State → Call → Type 0
Unlogs s c = ⊥

unlogged : (s : State) (c : Call) → Unlogs s c → Bool
unlogged s c x = absurd x

others : {s : State} {c : Call} {m : Move} → Does s c m → Effect ((apply s m).log ≡ s.log) (Attests s c) (Unlogs s c)
unfolding apply
others does_nothing = same refl
others (does_take h z n) = same refl
others (does_activate h n) = same refl
others (does_empty h) = same refl
others (does_write w h f) = same refl
others (does_share f) = same refl
others (does_log a) = adds (attests a)
others (does_escrow a) = same refl
others (does_release a) = same refl

module _ (i : ℕ) (g : Tag) (v : List ℕ) where
  pub record IsLogged (r : Logged) : Type 0 where
    pub identity : r.key.identity ≡ i
    pub tag : r.key.tag.0 ≡ g.0
    pub value : r.value ≡ v

  pub is_logged_lem : (r : Logged) → is_logged i g v r ≡ true → IsLogged r
  unfolding is_logged
  is_logged_lem r h =
      let t = and_right (eqb r.key.identity i) _ h in
      record {
        identity = eqb-true _ _ (and_left (eqb r.key.identity i) _ h);
        tag = eqb-true _ _ (and_left (eqb r.key.tag.0 g.0) _ t);
        value = same_bytes_lem _ _ (and_right (eqb r.key.tag.0 g.0) _ t);
      }

  pub logged_is : (r : Logged) → IsLogged r → is_logged i g v r ≡ true
  unfolding is_logged
  logged_is r h = and_true _ _ (eq-eqb _ _ h.identity) (and_true _ _ (eq-eqb _ _ h.tag) (rw h.value (same_bytes_refl v)))

  -- a row with the pair has the pair's tag
  pair_is : (r : Logged) → good_logged r ≡ true → is_pair i v r ≡ true → (tag_of i v).0 ≡ g.0 → IsLogged r
  unfolding good_logged right_tag is_pair
  pair_is r good h t =
      let a = eqb-true r.key.identity i (and_left (eqb r.key.identity i) _ h) in
      let b = same_bytes_lem r.value v (and_right (eqb r.key.identity i) _ h) in
      let c = eqb-true r.key.tag.0 _ (and_right (not (eqb r.key.identity 0)) _ good) in
      record { identity = a; tag = c ∙ rw (a, b) t; value = b }

  pair_logged : (l : List Logged) → every good_logged l ≡ true → (tag_of i v).0 ≡ g.0 → paired i v l ≡ true
      → any (is_logged i g v) l ≡ true
  unfolding paired
  pair_logged l good t h =
      let p = any_at (is_pair i v) l h in
      let d = pair_of i v in
      at_any (is_logged i g v) l d p.index p.within
      (logged_is _ (pair_is _ (every_at good_logged l d p.index good p.within) (p.passes d) t))

  -- attesting a pair already logged adds no row, and there is an earlier one
  again : (j : ℕ) (w : List ℕ) (l : List Logged) → every good_logged l ≡ true → paired j w l ≡ true
      → any (is_logged i g v) l ≡ any (is_logged i g v) l || is_logged i g v (pair_of j w)
  again j w l good h =
      by_cases (is_logged i g v (pair_of j w))
      (λ e. let q = is_logged_lem (pair_of j w) e in
      let z = pair_logged l good (rw (← q.identity, ← q.value) q.tag) (rw (← q.identity, ← q.value) h) in
      rw z)
      (λ e. rw e (sym (or_nil _)))

  more : (s : State) (c : Call) (a : Attests s c) → Valid s
      → any (is_logged i g v) (effect s c).log ≡ any (is_logged i g v) s.log || is_logged i g v (entry s c a)
  unfolding entry effect move apply with_pair
  more s c (attests {o = o} {n = n} a) valid =
      by_cases (paired (caller s) (own_part s o n) s.log)
      (λ e. rw e (again (caller s) (own_part s o n) s.log (log_of_lem valid).good e))
      (λ e. rw (e, any_append (is_logged i g v) s.log, any_one (is_logged i g v)))

module _ (es : List Element) (i : ℕ) (g : Tag) (v : List ℕ) where
  fed : Fed Attests Unlogs entry unlogged (is_logged i g v) (λ s. s.log)
  unfolding any fresh
  fed = record { empty = refl; others = others; more = more i g v; less = λ s c x. absurd x }

  logs_at : (k : ℕ) → AddsAt Attests Unlogs entry unlogged (is_logged i g v) es k → LogsAt call_on es i v g k
  unfolding entry number
  logs_at k x = at x.call x.adds x.accepted x.passes
    where
      at : (c : Call) (a : Attests (state_before es k) c) → Accepted (state_before es k) (element_at es k) c x.used
          → is_logged i g v (entry (state_before es k) c a) ≡ true → LogsAt call_on es i v g k
      at c (attests {o = o} {n = n} w) a p =
          let q = is_logged_lem i g v _ p in
          record {
            offset = o;
            size = n;
            used = x.used;
            reads = a.reads;
            accepts = accepts_at es k (attest o n) x.used a;
            by = caller_before es k ∙ q.identity;
            bytes = own_before es k o n w.runs w.fits ∙ q.value;
            gets = number_at_lem es k (attest o n) x.used a ∙ q.tag;
          }

  adds_at : (k : ℕ) → LogsAt call_on es i v g k → AddsAt Attests Unlogs entry unlogged (is_logged i g v) es k
  unfolding entry number
  adds_at k l =
      let o = l.offset in
      let n = l.size in
      let a = accepted_at_lem es k (attest o n) l.used l.reads l.accepts in
      let w = attest_passed (state_before es k) o n (valid_before es k) a.passes in
      record {
        call = attest o n;
        used = l.used;
        adds = attests w;
        accepted = a;
        passes = logged_is i g v _
            (record {
              identity = sym (caller_before es k) ∙ l.by;
              tag = sym (number_at_lem es k (attest o n) l.used a) ∙ l.gets;
              value = sym (own_before es k o n w.runs w.fits) ∙ l.bytes;
            });
      }

  -- the log has the triple where an earlier accepted attest logged it
  pub logged_since : (k : ℕ) → (logged i g v (state_before es k).log ≡ true) ↔ Earlier (LogsAt call_on es i v g) k
  unfolding logged
  logged_since k =
      let x =
      since Attests Unlogs entry unlogged (is_logged i g v) (λ s. s.log) fed es (LogsAt call_on es i v g) (λ _. ⊥)
      (λ k. (logs_at k, adds_at k)) (λ k. (λ x. x.ends, λ x. absurd x)) k in (
        λ h. let e = x.0 h in record { index = e.index; before = e.before; there = e.there },
        λ e. x.1 (record { index = e.index; before = e.before; there = e.there; since = λ j l m q. q }),
      )
