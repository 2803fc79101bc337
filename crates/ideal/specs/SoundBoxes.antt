-- Sound boxes, said a second time: the layouts of the well-formed states (Valid.antt), and no others.
use Rattle.std.specs.Prelude.{ℕ, ◌≡◌, ◌↔◌}
use Rattle.ideal.specs.State.{State}
use Rattle.ideal.specs.Tables.{Tables, tables}
use Rattle.ideal.specs.Layouts.{Sound}
use Rattle.ideal.specs.Valid.{Valid}

-- t is the layout of a well-formed state
pub record LaidOut (t : Tables) : Type 0 where
  pub state : State
  pub valid : Valid state
  pub layout : t ≡ tables state

-- soundness is that, with an output buffer of its size
abbrev pub SoundBoxes : Type 0
SoundBoxes = (t : Tables) (n : ℕ) → Sound t n ↔ ((n ≡ 1024) × LaidOut t)
