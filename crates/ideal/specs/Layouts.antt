-- What is proved of the layout and of soundness. The proofs are in proofs/Laid.antt and proofs/Kept.antt.
use Rattle.std.specs.Prelude.{ℕ, ◌≡◌, true, List}
use Rattle.ideal.specs.State.{fresh}
use Rattle.ideal.specs.Step.{step_on}
use Rattle.ideal.specs.Tables.{Tables, tables, state_of, fresh_tables}
use Rattle.ideal.specs.Soundness.{sizes_right, sound}
use Rattle.ideal.specs.Box.{Element, Result}

-- the lent buffers are of their sizes, and the box is sound
pub record Sound (t : Tables) (output_size : ℕ) : Type 0 where
  pub sizes : sizes_right t output_size ≡ true
  pub box : sound t ≡ true

-- the tables of the state of a sound box, hand-made ones included, are those of the box
abbrev pub LayoutsAgree : Type 0
LayoutsAgree = (t : Tables) (n : ℕ) → Sound t n → tables (state_of t) ≡ t

-- the state that a call leaves, laid out and read back, is that state
abbrev pub StatesAgree : Type 0
StatesAgree = (t : Tables) (n : ℕ) (bytes : List ℕ) → Sound t n
    → state_of (tables (step_on (state_of t) bytes).state) ≡ (step_on (state_of t) bytes).state

-- a call on a sound box ends in a sound box
abbrev pub StaysSound : (Tables → Element → Result) → Type 0
StaysSound box = (t : Tables) (e : Element) → Sound t e.output_size → Sound (box t e).tables e.output_size

-- a fresh box is the layout of the fresh state, and is sound
pub record FreshBox : Type 0 where
  pub is : fresh_tables ≡ tables fresh
  pub stands : state_of fresh_tables ≡ fresh
  pub sound : Sound fresh_tables 1024
