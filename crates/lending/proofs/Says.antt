-- A function that is proved to say one thing meets a contract that asks another, where the one gives the other: `Denote/Triple/Weaken.antt`'s `weaken`, at plain facts.
-- So a walk over every kind of row ends at a function's own `ensures`, as the function's author wrote it.
-- Assumes `Logic`.
use mathlib.Core.List.{List}
use Rattle.lending.proofs.Walk.{Ura, Val, SProp, ent, id⊢, fact, fact_use, Fun, Mono, Lfts, Ended, Clauses, AtExit, at_exit, closing, Args, Res, Meets, weaken}
use types.Logic.{Logic}

module _ {M : Type 1} (𝓤 : Ura M) (T : Ended) (Asks : (κs : Lfts T.signature.lifetimes) → Args T.signature κs → SProp 𝓤) where
  -- what an `ensures` is, of a contract that binds no ghost value
  abbrev pub Ensures : Type 2
  Ensures = (κs : Lfts T.signature.lifetimes) (a : Args T.signature κs) → Unit {0} → Res T.signature κs → AtExit T κs → SProp 𝓤

  abbrev pub asking : Ensures → Clauses 𝓤 T
  asking E κs a = record { ghost = Unit {0}; requires = λ g. Asks κs a; ensures = E κs a }

  module _ (Says : (κs : Lfts T.signature.lifetimes) → Args T.signature κs → Res T.signature κs → AtExit T κs → Type 0) where
    abbrev pub saying : Clauses 𝓤 T
    saying = asking (λ κs a g r e. fact 𝓤 (Says κs a r e))

    -- what is said gives an `ensures`
    abbrev pub Tells : Ensures → Type 1
    Tells E = (κs : Lfts T.signature.lifetimes) (a : Args T.signature κs) (r : Res T.signature κs) (e : AtExit T κs) → Says κs a r e → ent 𝓤 (fact 𝓤 (Says κs a r e)) (E κs a tt r e)

    pub says_so : (𝓛 : Logic 𝓤) → (E : Ensures) → Tells E → (run : Fun 𝓤) → ((vs : List Val) → Mono 𝓤 (run vs))
        → Meets 𝓛 T.signature run (closing 𝓛 T saying) → Meets 𝓛 T.signature run (closing 𝓛 T (asking E))
    says_so 𝓛 E h = weaken 𝓛 T saying E (λ κs a g r ws. fact_use 𝓤 (Says κs a r (at_exit T κs a ws)) (id⊢ 𝓤 _) (h κs a r (at_exit T κs a ws)))
