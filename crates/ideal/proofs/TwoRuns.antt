-- Two runs of a box in step, and document 01's claim at each index from it. Assumes nothing.
use Prim.Native.Nat.{ℕ, zero, suc, ◌<◌}
use mathlib.Core.Path.{◌≡◌, refl, ap}
use mathlib.Core.Bool.{Bool}
use mathlib.Core.List.{List, [], ◌∷◌}
use native.Mathlib.Omega.{arith}
use lib.ListN.{length, take}
use Rattle.ideal.specs.Tables.{Tables, fresh_tables}
use Rattle.ideal.specs.Box.{Element, Result, element_at, tables_from, tables_after, tables_before, answer_at}
use Rattle.ideal.specs.Secrecy.{group_runs, AlikeAt, EqualAt, AgreeOutside, PremiseAt, Exemption, AlikeLists, Premise, EqualOutside}

module _ (box : Tables → Element → Result) (G : ℕ → Bool) where
  -- two lists that are alike and meet the premise, from x and y on
  pub record Indexed (x y : Tables) (es fs : List Element) : Type 0 where
    pub long : length es ≡ length fs
    pub alike : (k : ℕ) → k < length es → AlikeAt G (tables_from box x (take k es)) (element_at es k) (element_at fs k)
    pub premise : (k : ℕ) → k < length es
        → PremiseAt box G (tables_from box x (take k es)) (tables_from box y (take k fs)) (element_at es k)

  pub ended : {x y : Tables} → Indexed x y [] []
  ended = record { long = refl; alike = λ k l. absurd (omega arith); premise = λ k l. absurd (omega arith) }

  pub both : {x y : Tables} {e f : Element} {es fs : List Element} → AlikeAt G x e f → PremiseAt box G x y e
      → Indexed (box x e).tables (box y f).tables es fs → Indexed x y (e ∷ es) (f ∷ fs)
  unfolding tables_from element_at
  both a p rest =
      record {
        long = ap suc rest.long;
        alike = elim [ zero ↦ λ l. a | suc k ↦ λ l. rest.alike k (omega arith) ];
        premise = elim [ zero ↦ λ l. p | suc k ↦ λ l. rest.premise k (omega arith) ];
      }

module _ (exempt : Exemption) (box : Tables → Element → Result) (G : ℕ → Bool) where
  -- ---- a relation of two runs' tables that calls keep

  pub record Stepped (R : Tables → Tables → Type 0) (x y : Tables) (e f : Element) : Type 0 where
    pub answer : EqualAt (exempt G x e) (group_runs G x) (box x e).answer (box y f).answer
    pub after : R (box x e).tables (box y f).tables

  pub record Preserved (R : Tables → Tables → Type 0) : Type 0 where
    pub agrees : {x y : Tables} → R x y → AgreeOutside G x y
    pub both : {x y : Tables} {e f : Element} → R x y → AlikeAt G x e f → PremiseAt box G x y e → Stepped R x y e f

  -- what is equal in the runs of two lists from x and y on
  record Equal (x y : Tables) (es fs : List Element) : Type 0 where
    answers : (k : ℕ) → k < length es
        → let t = tables_from box x (take k es) in
        EqualAt (exempt G t (element_at es k)) (group_runs G t) (box t (element_at es k)).answer
        (box (tables_from box y (take k fs)) (element_at fs k)).answer
    end : AgreeOutside G (tables_from box x es) (tables_from box y fs)

  equal : {R : Tables → Tables → Type 0} → Preserved R → (es fs : List Element) {x y : Tables} → R x y → Indexed box G x y es fs
      → Equal x y es fs
  unfolding tables_from element_at
  equal k [] [] r i = record { answers = λ n l. absurd (omega arith); end = k.agrees r }
  equal k [] (f ∷ fs) r i = let n = i.long in absurd (omega arith)
  equal k (e ∷ es) [] r i = let n = i.long in absurd (omega arith)
  equal k (e ∷ es) (f ∷ fs) r i =
      let n = i.long in
      let one = k.both r (i.alike 0 (omega arith)) (i.premise 0 (omega arith)) in
      let rest =
      equal k es fs one.after
      (record {
        long = omega arith;
        alike = λ m l. i.alike (suc m) (omega arith);
        premise = λ m l. i.premise (suc m) (omega arith);
      }) in
      record {
        answers = elim [ zero ↦ λ l. one.answer | suc m ↦ λ l. rest.answers m (omega arith) ];
        end = rest.end;
      }

  -- demand 3 of a box, from a relation that its calls keep
  pub secrecy_of : {R : Tables → Tables → Type 0} → Preserved R → R fresh_tables fresh_tables → (es fs : List Element)
      → AlikeLists box G es fs → Premise box G es fs → EqualOutside box G es fs exempt
  unfolding tables_before tables_after answer_at
  secrecy_of k r es fs a p =
      let m = equal k es fs r (record { long = a.long; alike = a.alike; premise = p }) in
      record { answers = m.answers; end = m.end }
