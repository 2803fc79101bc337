use Rattle.std.proofs.Common.{◌≡◌, ℕ, ◌-◌, ◌^◌, ◌<◌, List}
use Rattle.ideal.specs.Step.{free_from, free_handle}
use Rattle.ideal.specs.Tables.{escrow_table, entries_of}
use Rattle.handles.proofs.free_handle.Given as goal

-- the search from this draw on, with the candidates that are left, comes to the same handle
abbrev pub invariant-loop : goal.invariant-loop
invariant-loop l =
    (l.d.0 < 2 ^ 48)
    × ((values : List ℕ)
    → let e = entries_of escrow_table values l.rows in
    free_from (64 - l.counter) l.size l.d.0 e ≡ free_handle l.size l.initial.d e)
