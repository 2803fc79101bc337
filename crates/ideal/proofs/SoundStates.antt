-- From the laws of the layout.
use mathlib.Core.Path.{sym}
use Rattle.ideal.specs.SoundBoxes.{SoundBoxes}
use Rattle.ideal.specs.Tables.{state_of}
use Rattle.ideal.proofs.Facts.{output_size_lem}
use Rattle.ideal.proofs.Laid.{valid_sound, tables_state, sound_tables}

pub sound_boxes : SoundBoxes
sound_boxes t n = (
  λ h. (output_size_lem t n h.sizes, record { state = state_of t; valid = valid_sound t n h; layout = sym (tables_state t n h) }),
  λ h. rw (h.0, h.1.layout) (sound_tables h.1.state h.1.valid),
)
