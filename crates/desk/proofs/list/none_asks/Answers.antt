use Rattle.std.proofs.Common.{◌≡◌, Bool, ◌||◌, List, [], ◌∷◌, refl, ap, ◌∙◌, not, rules, tests}
use Rattle.std.specs.List.{list_any}
use Rattle.std.proofs.lemmas.Iterator.{YieldsList-from_slice}
use Rattle.std.proofs.lemmas.Iterator.Search.{any_from_yields_List}
use Rattle.lists.specs.Lists.{any}
use Rattle.desk.specs.declared.Tank.{Tank}
use Rattle.desk.specs.Results.{needs_box}
use Rattle.desk.proofs.list.none_asks.Goals as goal

any_is : (p : Tank → Bool) (ks : List Tank) → list_any p ks ≡ any p ks
unfolding any
any_is p [] = refl
any_is p (k ∷ ks) = ap (λ b. p k || b) (any_is p ks)

pub returns : goal.returns
returns c =
    let r = any_from_yields_List needs_box _ _ c.any.result c.any.ensures.ran (YieldsList-from_slice c.args.tanks.now cc) (λ x b q k. search (rules, tests)) in
    ap not (r ∙ any_is needs_box c.args.tanks.now)
