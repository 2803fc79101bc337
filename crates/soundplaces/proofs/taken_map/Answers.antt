use mathlib.Core.Path.{◌≡◌, refl, sym, ◌∙◌}
use mathlib.Core.Bool.{Bool, true, false, not, cond}
use mathlib.Core.List.{[], ◌∷◌}
use mir.Val.{bool_byte}
use lib.Dec.{eqb}
use native.Mathlib.Omega.{arith}
use Rattle.std.proofs.lemmas.List.{append-nil}
use Rattle.std.proofs.Math.Seq.{append_snoc}
use Rattle.ideal.specs.Tables.{taken_map}
use Rattle.soundness.proofs.MapAndHeaps.{map_rest, map_whole, bit_small}
use Rattle.soundplaces.proofs.taken_map.Goals as goal

flipped : (b : Bool) → bool_byte (not b) ≡ cond b 0 1
flipped true = refl
flipped false = refl

pub loop-identity-init : goal.loop-identity-init
unfolding taken_map
loop-identity-init c = (tt, tt, ([], append-nil _ ∙ (cc), refl))

pub overflow_mul-map : goal.overflow_mul-map
overflow_mul-map c =
    let (done, all, map) = c.loop-identity.invariant.2 in
    omega (arith, map_rest _ _ _ done _ all c.in-Some.ensures.steps (omega (arith, c.well_formed)))

pub overflow_add-map : goal.overflow_add-map
overflow_add-map c =
    let (done, all, map) = c.loop-identity.invariant.2 in
    omega (arith, flipped (eqb c.in-Some.identity.now 0), bit_small c.in-Some.identity.now, map_rest _ _ _ done _ all c.in-Some.ensures.steps (omega (arith, c.well_formed)))

pub loop-identity-preserved : goal.loop-identity-preserved
unfolding taken_map
loop-identity-preserved c =
    let (done, all, map) = c.loop-identity.invariant.2 in
    (tt, tt, (c.in-Some.identity.now ∷ done, sym (append_snoc _ _ _) ∙ rw (← c.in-Some.ensures.steps) all, omega (arith, flipped (eqb c.in-Some.identity.now 0))))

pub returns : goal.returns
returns c =
    let (done, all, map) = c.loop-identity.invariant.2 in
    map ∙ map_whole _ _ done all c.in-None.ensures.steps.0
