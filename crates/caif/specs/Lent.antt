-- What the exported functions are given, leave and answer, as the definitions say it.
use Rattle.std.specs.Prelude.{ℕ, List}
use Rattle.record.specs.Write.{WriteResult}
use Rattle.ideal.specs.declared.LogRow.{LogRow}
use Rattle.ideal.specs.declared.EscrowRow.{EscrowRow}
use Rattle.ideal.specs.Tables.{lent_tables}
use Rattle.calls.specs.declared.Buffers.{Buffers}
use Rattle.calls.specs.Entry.{EntryResult}
use Rattle.caif.specs.declared.LentReply.{LentReply}
use Rattle.caif.specs.declared.WrittenReply.{WrittenReply}

-- the reply, with the lent rows and buffers at exit
abbrev pub lent_result : LentReply → List LogRow → List EscrowRow → (heaps shared log_values escrow_values output : List ℕ)
    → EntryResult
lent_result r log escrow heaps shared log_values escrow_values output =
    record {
      tables = lent_tables r.held log escrow heaps shared log_values escrow_values;
      answer = r.answer;
      output = output;
    }

-- the same, where the buffers are one struct
abbrev pub lent_result_in : LentReply → List LogRow → List EscrowRow → Buffers → EntryResult
lent_result_in r log escrow l =
    lent_result r log escrow l.heaps.now l.shared.now l.log_values.now l.escrow_values.now l.output.now

-- the writer's answer, with its buffer at exit
abbrev pub lent_written : WrittenReply → (buffer : List ℕ) → WriteResult
lent_written r buffer = record { code = r.code; length = r.length; buffer = buffer }
