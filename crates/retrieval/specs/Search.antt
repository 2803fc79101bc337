-- What the search for an escrow row answers.
use Rattle.std.specs.Prelude.{ℕ, List, get_or, Option, Some, None}
use Rattle.std.proofs.Math.Option as math
use Rattle.std.proofs.Math.Option.{none, some}
use Rattle.record.specs.Layout.{OrRefusal, gives, refuses}
use Rattle.ideal.specs.declared.EscrowRow.{EscrowRow}
use Rattle.ideal.specs.State.{Escrowed}
use Rattle.ideal.specs.Tables.{escrow_table, entry_of}

-- what the index of a row stands for, and no index: what is escrowed in that row, or the refusal 10
unfoldable pub entry_found : List ℕ → List EscrowRow → Option ℕ → OrRefusal Escrowed
entry_found values rows (Some i) = gives (entry_of escrow_table values (get_or rows i escrow_table.blank))
entry_found values rows None = refuses 10

-- what a search of the definition gives
unfoldable pub sought : math.Option Escrowed → OrRefusal Escrowed
sought (some e) = gives e
sought none = refuses 10
