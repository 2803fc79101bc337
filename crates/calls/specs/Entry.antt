-- What the entry leaves and answers. The contract of `call` equates the code's `result_of` with the definition's `entry_on`.
use Rattle.std.specs.Prelude.{ℕ, ◌≤◌, ◌<◌, ◌≡◌, Bool, false, ◌&&◌, List, length, get_or}
use Rattle.record.specs.Call.{Call}
use Rattle.ideal.specs.declared.Profile.{Profile}
use Rattle.ideal.specs.declared.Profile.TheVariants.{Full}
use Rattle.ideal.specs.declared.LogRow.{LogRow}
use Rattle.ideal.specs.declared.EscrowRow.{EscrowRow}
use Rattle.ideal.specs.Step.{step_by, step_on_by}
use Rattle.ideal.specs.Tables.{Tables, state_of}
use Rattle.ideal.specs.Soundness.{sizes_right, sound}
use Rattle.ideal.specs.Box.{Element, given, Result, laid, output_after, call_on}
use Rattle.ideal.specs.LevelOne.{refusal_in}
use Rattle.ideal.specs.LevelOneDemands.{barring}
use Rattle.state.specs.declared.Answer.{Answer}
use Rattle.state.specs.declared.Change.{Change}
use Rattle.state.specs.Edits.{changed}

pub record EntryResult : Type 0 where
  -- the box record, the heaps, shared memory, the rows and the value bytes of the log and of the escrow
  pub tables : Tables
  -- code, number, record bytes used, how many bytes are shown
  pub answer : Answer
  -- the whole output buffer
  pub output : List ℕ

-- of the code: the tables that came in, with what it changes, and the lent buffers at exit
abbrev pub result_of : List LogRow → List EscrowRow → Change → (heaps shared log_values escrow_values output : List ℕ) → EntryResult
result_of log escrow c heaps shared log_values escrow_values output =
    record {
      tables = changed c log escrow heaps shared log_values escrow_values;
      answer = c.answer;
      output = output;
    }

-- of the definition: its result, and what the output buffer held before
unfoldable pub result_on : Result → (output : List ℕ) → EntryResult
result_on r output =
    record {
      tables = r.tables;
      answer =
          record {
            code = r.answer.code;
            number = r.answer.number;
            used = r.answer.used;
            shown = length r.answer.shown;
          };
      output = output_after r.answer output;
    }

-- a whole box
unfoldable pub entry_on : (Tables → Element → Result) → Tables → (bytes output : List ℕ) → EntryResult
entry_on box t bytes output = result_on (box t (given bytes (length output))) output

-- a refusal leaves the box record, the tables and every lent buffer, the output buffer too, as they were
pub record Leaves (t : Tables) (buffer : List ℕ) (r : EntryResult) : Type 0 where
  pub tables : r.tables ≡ t
  pub output : r.output ≡ buffer

abbrev pub EntryRefuses : (Tables → Element → Result) → Type 0
EntryRefuses box = (t : Tables) (bytes output : List ℕ) → ((entry_on box t bytes output).answer.code ≡ 0 → ⊥)
    → Leaves t output (entry_on box t bytes output)

-- where it gives none of the three numbers, the entry of level one leaves and answers what the full box's does, the output
-- buffer too
abbrev pub EntryElseFull : (Tables → Element → Result) → Type 0
EntryElseFull box = (t : Tables) (bytes output : List ℕ) → barring (entry_on box t bytes output).answer.code ≡ false
    → entry_on box t bytes output ≡ entry_on call_on t bytes output

-- the output buffer a second time, byte by byte: it begins with the bytes shown, and each byte behind them is what it was
pub record Shows (shown before after : List ℕ) : Type 0 where
  pub size : length after ≡ length before
  pub front : (i : ℕ) → i < length shown → get_or after i 0 ≡ get_or shown i 0
  pub behind : (i : ℕ) → length shown ≤ i → get_or after i 0 ≡ get_or before i 0

-- of any box, where what it shows fits
abbrev pub EntryShows : Type 0
EntryShows = (box : Tables → Element → Result) (t : Tables) (bytes output : List ℕ)
    → let shown = (box t (given bytes (length output))).answer.shown in
    length shown ≤ length output → Shows shown output (entry_on box t bytes output).output

-- ---- its parts

-- what is tested first
unfoldable pub ready_on : Tables → (output_size : ℕ) → Bool
ready_on t output_size = sizes_right t output_size && sound t

-- a record's bytes, on a sound box
unfoldable pub sound_on : Profile → Tables → (bytes output : List ℕ) → EntryResult
sound_on p t bytes output = result_on (laid (step_on_by (refusal_in p) (state_of t) bytes)) output

-- a call, on a sound box: it reads no record, so that it uses no byte of one
unfoldable pub carried_in : Profile → Tables → Call → (output : List ℕ) → EntryResult
carried_in p t c output = result_on (laid (step_by (refusal_in p) (state_of t) c 0)) output

-- in the full box
abbrev pub carried_on : Tables → Call → (output : List ℕ) → EntryResult
carried_on = carried_in Full

-- the answer to a cut record: so many bytes finish the field being read
abbrev pub cut_with : (missing : ℕ) → Answer
cut_with missing = record { code = 1; number = missing; used = 0; shown = 0 }

-- a call of a record with so many bytes
abbrev pub with_used : Change → (used : ℕ) → Change
with_used c used =
    record {
      held = c.held;
      edits = c.edits;
      answer =
          record {
            code = c.answer.code;
            number = c.answer.number;
            used = used;
            shown = c.answer.shown;
          };
    }
