-- What the code's values stand for.
use Rattle.std.specs.Prelude.{ℕ, List, Result, Ok, Err}
use Rattle.std.proofs.Math.Option.{Option}
use denote.Ref.{Bor}
use Rattle.record.specs.declared.Handle.{Handle}
use Rattle.record.specs.Call.{logged_link, escrowed_link}
use Rattle.record.specs.Layout.{OrRefusal, gives, refuses}
use Rattle.ideal.specs.State.{Logged, Escrowed, find}
use Rattle.ideal.specs.Step.{is_escrowed, Head, malformed, ends, leads}
use Rattle.ideal.specs.Tables.{log_table, escrow_table, entries_of}
use Rattle.state.specs.declared.refusal.Refusal.{Refusal}
use Rattle.state.specs.Refusals.{number_of}
use Rattle.chain.specs.declared.Head as code
use Rattle.chain.specs.declared.Head.TheVariants as case
use Rattle.chain.specs.declared.custody.Custody.{Custody}

-- the log, and what a source escrowed for the caller under a handle
abbrev pub log_in : Custody → List Logged
log_in c = entries_of log_table c.log_values.now c.log.now

abbrev pub found_in : Custody → (source : ℕ) → Handle → Option Escrowed
found_in c source h = find (is_escrowed h source c.caller) (entries_of escrow_table c.escrow_values.now c.escrow.now)

abbrev pub head_in : Result code.Head Refusal → Head
head_in (Ok case.End) = ends
head_in (Ok (case.Logged i g)) = leads (logged_link i g)
head_in (Ok (case.Escrowed i h)) = leads (escrowed_link i h)
head_in (Err r) = malformed

-- a link's value, and the chain bytes behind the link
pub record ValueAndRest : Type 0 where
  pub value : List ℕ
  pub rest : List ℕ

-- a logged link's value and rest
abbrev pub in_chain : Result (Bor (List ℕ) × Bor (List ℕ)) Refusal → OrRefusal ValueAndRest
in_chain (Ok v) = gives (record { value = v.0.now; rest = v.1.now })
in_chain (Err r) = refuses (number_of r)

-- an escrowed link's value, where these chain bytes are left
abbrev pub in_escrow : List ℕ → Result (Bor (List ℕ)) Refusal → OrRefusal ValueAndRest
in_escrow rest (Ok v) = gives (record { value = v.now; rest = rest })
in_escrow rest (Err r) = refuses (number_of r)
