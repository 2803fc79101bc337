-- The escrow holds what earlier accepted protects escrowed and no accepted release has ended since, and nothing else. Assumes
-- nothing.
use Prim.Native.Nat.{ℕ}
use mathlib.Core.Path.{◌≡◌, refl, sym, ap, ◌∙◌}
use mathlib.Core.Logic.{◌↔◌}
use mathlib.Core.Bool.{Bool, true, false, not, ◌&&◌, ◌||◌}
use mathlib.Core.List.{List, [], ◌∷◌}
use lib.Dec.{eqb}
use borrow.Author.Tests.{eqb-true, eq-eqb}
use Rattle.record.specs.declared.Handle.{Handle}
use Rattle.record.specs.declared.Draw.{Draw}
use Rattle.record.specs.Call.{Call, protect, release}
use Rattle.record.specs.Read.{whole}
use Rattle.ideal.specs.State.{Escrowed, State, Move, fresh, caller, any, same_bytes}
use Rattle.ideal.specs.Step.{is_named, spent, given_up, protected, move, apply, effect, number}
use Rattle.ideal.specs.Box.{Element, call_on, element_at}
use Rattle.ideal.specs.Accuracy.{EarlierNot, ProtectsAt, ReleasesAt}
use Rattle.lists.proofs.Bools.{by_cases, clash, and_left, and_right, and_true, and_false, and_nil}
use Rattle.lists.proofs.Lists.{same_bytes_lem, same_bytes_refl, any_append, any_one}
use Rattle.ideal.specs.Valid.{Valid}
use Rattle.ideal.proofs.Does.{ProtectPassed, protect_passed, ReleasePassed, release_passed, Does, does_nothing, does_take, does_activate, does_empty, does_write, does_share, does_log, does_escrow, does_release}
use Rattle.ideal.proofs.Runs.{state_before, valid_before, caller_before, own_before, accepted_at_lem, accepts_at, Accepted, number_at_lem}
use Rattle.ideal.proofs.Since.{Effect, same, adds, ends, Fed, AddsAt, EndsAt, since}
use Rattle.ideal.proofs.GivenUp.{IsNamed, is_named_lem, named_is, any_map}

-- ---- what accepted protects add, and accepted releases end

pub data Protects (s : State) : Call → Type 0 where
  protects : {i o n : ℕ} {d : Draw} → ProtectPassed s i o n d → Protects s (protect i o n d)

unfoldable pub entry : (s : State) (c : Call) → Protects s c → Escrowed
entry s c (protects {i = i} {o = o} {n = n} {d = d} a) = protected s i o n d

pub data Releases (s : State) : Call → Type 0 where
  releases : {i : ℕ} {h : Handle} → ReleasePassed s i h → Releases s (release i h)

pub others : {s : State} {c : Call} {m : Move} → Does s c m → Effect ((apply s m).escrow ≡ s.escrow) (Protects s c) (Releases s c)
unfolding apply
others does_nothing = same refl
others (does_take h z n) = same refl
others (does_activate h n) = same refl
others (does_empty h) = same refl
others (does_write w h f) = same refl
others (does_share f) = same refl
others (does_log a) = same refl
others (does_escrow a) = adds (protects a)
others (does_release a) = ends (releases a)

pub more : (test : Escrowed → Bool) (s : State) (c : Call) (a : Protects s c) → Valid s
    → any test (effect s c).escrow ≡ any test s.escrow || test (entry s c a)
unfolding entry effect move apply
more test s c (protects a) valid = rw (any_append test s.escrow, any_one test)

-- an unspent entry under this handle, from this source for this recipient, with this value; what a retrieve looks for
-- (`is_escrowed`) is not named here, so that a wrong one is refused where it is shown to find this
unfoldable pub is_held : Handle → ℕ → ℕ → List ℕ → Escrowed → Bool
is_held h i r v e = (is_named h i r e && eqb e.key.mark 0) && same_bytes e.value v

module _ (h : Handle) (i r : ℕ) (v : List ℕ) (e : Escrowed) where
  held_named : is_held h i r v e ≡ true → is_named h i r e ≡ true
  unfolding is_held
  held_named q = and_left (is_named h i r e) _ (and_left (is_named h i r e && eqb e.key.mark 0) _ q)

  held_value : is_held h i r v e ≡ true → e.value ≡ v
  unfolding is_held
  held_value q = same_bytes_lem _ _ (and_right (is_named h i r e && eqb e.key.mark 0) _ q)

  held_is : IsNamed h i r e → e.key.mark ≡ 0 → e.value ≡ v → is_held h i r v e ≡ true
  unfolding is_held
  held_is q m w =
      and_true _ _ (and_true _ _ (named_is h i r e q) (eq-eqb _ _ m)) (rw w (same_bytes_refl v))

-- ---- a release ends what it names, and nothing else

-- two names of an entry
same_names : Handle → ℕ → ℕ → Handle → ℕ → ℕ → Bool
same_names g j q h i r = eqb g.0 h.0 && (eqb j i && eqb q r)

names : (h : Handle) (i r : ℕ) (s : State) (c : Call) → Releases s c → Bool
names h i r s c (releases {i = j} {h = g} a) = same_names g j (caller s) h i r

spent_unheld : (h : Handle) (i r : ℕ) (v : List ℕ) (e : Escrowed) → is_held h i r v (spent e) ≡ false
unfolding is_held spent
spent_unheld h i r v e = rw (and_false (is_named h i r (spent e)) (eqb 1 0) refl)

module _ (g : Handle) (j q : ℕ) (h : Handle) (i r : ℕ) (v : List ℕ) where
  ends_it : same_names g j q h i r ≡ true → (e : Escrowed) → is_held h i r v (given_up g j q e) ≡ false
  unfolding given_up same_names
  ends_it n e =
      let x = and_right (eqb g.0 h.0) _ n in
      let a = eqb-true g.0 h.0 (and_left _ _ n) in
      let b = eqb-true j i (and_left (eqb j i) _ x) in
      let c = eqb-true q r (and_right (eqb j i) _ x) in
      by_cases (is_named g j q e)
      (λ t. rw t (spent_unheld h i r v e))
      (λ f. rw f
      (by_cases (is_held h i r v e)
      (λ t. let m = is_named_lem h i r e (held_named h i r v e t) in
      clash _ (named_is g j q e (record { handle = m.handle ∙ sym a; source = m.source ∙ sym b; recipient = m.recipient ∙ sym c })) f)
      (λ z. z)))

  ends_no_other : same_names g j q h i r ≡ false → (e : Escrowed) → is_held h i r v (given_up g j q e) ≡ is_held h i r v e
  unfolding given_up same_names
  ends_no_other n e =
      by_cases (is_named g j q e)
      (λ t. let m = is_named_lem g j q e t in
      rw (t, spent_unheld h i r v e)
      (by_cases (is_held h i r v e)
      (λ u. let w = is_named_lem h i r e (held_named h i r v e u) in
      clash _
      (and_true _ _ (eq-eqb _ _ (sym m.handle ∙ w.handle))
      (and_true _ _ (eq-eqb _ _ (sym m.source ∙ w.source)) (eq-eqb _ _ (sym m.recipient ∙ w.recipient)))) n)
      (λ z. sym z)))
      (λ f. rw f)

none_any : {A : Type 0} (l : List A) → any (λ _. false) l ≡ false
unfolding any
none_any [] = refl
none_any (a ∷ l) = none_any l

less : (h : Handle) (i r : ℕ) (v : List ℕ) (s : State) (c : Call) (a : Releases s c)
    → any (is_held h i r v) (effect s c).escrow ≡ any (is_held h i r v) s.escrow && not (names h i r s c a)
unfolding names effect move apply
less h i r v s c (releases {i = j} {h = g} a) =
    by_cases (same_names g j (caller s) h i r)
    (λ t. any_map (given_up g j (caller s)) (is_held h i r v) (λ _. false) (ends_it g j (caller s) h i r v t) s.escrow
    ∙ none_any s.escrow ∙ sym (and_false (any (is_held h i r v) s.escrow) _ (rw t)))
    (λ f. any_map (given_up g j (caller s)) (is_held h i r v) (is_held h i r v) (ends_no_other g j (caller s) h i r v f) s.escrow
    ∙ sym (ap (λ b. any (is_held h i r v) s.escrow && not b) f ∙ and_nil _))

module _ (es : List Element) (h : Handle) (i r : ℕ) (v : List ℕ) where
  fed : Fed Protects Releases entry (names h i r) (is_held h i r v) (λ s. s.escrow)
  unfolding any fresh
  fed = record { empty = refl; others = others; more = more (is_held h i r v); less = less h i r v }

  protects_at : (k : ℕ) → AddsAt Protects Releases entry (names h i r) (is_held h i r v) es k → ProtectsAt call_on es i r h v k
  unfolding entry protected number
  protects_at k x = at x.call x.adds x.accepted x.passes
    where
      at : (c : Call) (a : Protects (state_before es k) c) → Accepted (state_before es k) (element_at es k) c x.used
          → is_held h i r v (entry (state_before es k) c a) ≡ true → ProtectsAt call_on es i r h v k
      at c (protects {i = j} {o = o} {n = n} {d = d} w) a p =
          let q = is_named_lem h i r _ (held_named h i r v _ p) in
          record {
            offset = o;
            size = n;
            draw = d;
            used = x.used;
            reads = a.reads ∙ ap (λ m. whole (protect m o n d) x.used) q.recipient;
            accepts = accepts_at es k (protect j o n d) x.used a;
            by = caller_before es k ∙ q.source;
            bytes = own_before es k o n w.runs w.fits ∙ held_value h i r v _ p;
            gets = number_at_lem es k (protect j o n d) x.used a ∙ q.handle;
          }

  adds_at : (k : ℕ) → ProtectsAt call_on es i r h v k → AddsAt Protects Releases entry (names h i r) (is_held h i r v) es k
  unfolding entry protected number
  adds_at k l =
      let o = l.offset in
      let n = l.size in
      let d = l.draw in
      let a = accepted_at_lem es k (protect r o n d) l.used l.reads l.accepts in
      let w = protect_passed (state_before es k) r o n d (valid_before es k) a.passes in
      record {
        call = protect r o n d;
        used = l.used;
        adds = protects w;
        accepted = a;
        passes = held_is h i r v _
            (record {
              handle = sym (number_at_lem es k (protect r o n d) l.used a) ∙ l.gets;
              source = sym (caller_before es k) ∙ l.by;
              recipient = refl;
            })
            refl (sym (own_before es k o n w.runs w.fits) ∙ l.bytes);
      }

  releases_at : (k : ℕ) → EndsAt Protects Releases entry (names h i r) (is_held h i r v) es k → ReleasesAt call_on es i r h k
  unfolding names same_names
  releases_at k x = at x.call x.ends x.accepted x.named
    where
      at : (c : Call) (a : Releases (state_before es k) c) → Accepted (state_before es k) (element_at es k) c x.used
          → names h i r (state_before es k) c a ≡ true → ReleasesAt call_on es i r h k
      at c (releases {i = j} {h = g} w) a n =
          let y = and_right (eqb g.0 h.0) _ n in
          let m = eqb-true g.0 h.0 (and_left _ _ n) in
          let gh : g ≡ h = λ x. record { 0 = m x } in
          let ji = eqb-true j i (and_left (eqb j i) _ y) in
          record {
            used = x.used;
            reads = a.reads ∙ λ z. whole (release (ji z) (gh z)) x.used;
            accepts = accepts_at es k (release j g) x.used a;
            by = caller_before es k ∙ eqb-true _ r (and_right (eqb j i) _ y);
          }

  ends_at : (k : ℕ) → ReleasesAt call_on es i r h k → EndsAt Protects Releases entry (names h i r) (is_held h i r v) es k
  unfolding names same_names
  ends_at k l =
      let a = accepted_at_lem es k (release i h) l.used l.reads l.accepts in
      record {
        call = release i h;
        used = l.used;
        ends = releases (release_passed (state_before es k) i h (valid_before es k) a.passes);
        accepted = a;
        named = and_true _ _ (eq-eqb h.0 _ refl)
            (and_true _ _ (eq-eqb i _ refl) (eq-eqb _ _ (sym (caller_before es k) ∙ l.by)));
      }

  -- the escrow has the entry where an earlier accepted protect added it, and no accepted release has ended it since
  pub held_since : (k : ℕ) → (any (is_held h i r v) (state_before es k).escrow ≡ true)
      ↔ EarlierNot (ProtectsAt call_on es i r h v) (ReleasesAt call_on es i r h) k
  held_since =
      since Protects Releases entry (names h i r) (is_held h i r v) (λ s. s.escrow) fed es (ProtectsAt call_on es i r h v)
      (ReleasesAt call_on es i r h) (λ k. (protects_at k, adds_at k)) (λ k. (releases_at k, ends_at k))
