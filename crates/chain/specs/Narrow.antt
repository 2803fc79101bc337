-- What following a chain answers, on the parts of the box that it is given.
use Rattle.std.specs.Prelude.{ℕ, ◌+◌, ◌-◌, cond, List, drop, eqb}
use Rattle.std.proofs.Math.Option.{Option}
use Rattle.record.specs.declared.Handle.{Handle}
use Rattle.record.specs.Call.{Link, identity_of}
use Rattle.record.specs.Layout.{OrRefusal, gives, refuses}
use Rattle.ideal.specs.declared.BoxRecord.{BoxRecord}
use Rattle.ideal.specs.declared.LogRow.{LogRow}
use Rattle.ideal.specs.declared.EscrowRow.{EscrowRow}
use Rattle.ideal.specs.State.{Logged, Escrowed}
use Rattle.ideal.specs.Step.{next_count, next_cut, next_value, unreadable, bytes_after, link_value, unvouched, accept, ◌then◌, first_holding, follow, links_from}
use Rattle.state.specs.declared.Answer.{Answer}
use Rattle.state.specs.Answers.{settled, answered}
use Rattle.state.specs.Parts.{log_of}
use Rattle.retrieval.specs.Narrow.{found_on}
use Rattle.chain.specs.declared.custody.Custody.{Custody}
use Rattle.chain.specs.Meaning.{ValueAndRest, log_in, found_in}

-- the next logged value of the chain bytes
abbrev pub next_of : List ℕ → OrRefusal ValueAndRest
next_of bs = cond (next_cut bs) (refuses 19) (gives (record { value = next_value bs; rest = drop (2 + next_count bs) bs }))

module _ (log : List Logged) (found : ℕ → Handle → Option Escrowed) where
  -- the tests of a link before its head is read
  abbrev pub link_refusal : Link → List ℕ → ℕ
  link_refusal k bs =
      first_holding
      ((19, unreadable k bs) then (9, eqb (identity_of k) 0) then (18, unvouched log found k bs) then accept)

  unfoldable pub vouched : Link → List ℕ → OrRefusal ValueAndRest
  vouched k bs =
      let refusal = link_refusal k bs in
      settled refusal (refuses refusal) (gives (record { value = link_value log found k bs; rest = bytes_after k bs }))

  -- the answer from a link on, where so many of the sixteen may still be followed
  unfoldable pub followed_from : ℕ → Link → List ℕ → Answer
  followed_from left k bs = answered (first_holding (follow log found left k bs)) (16 - left + links_from log found left k bs)

module _ (b : BoxRecord) (log_rows : List LogRow) (escrow_rows : List EscrowRow) (log_values escrow_values : List ℕ) where
  unfoldable pub chain_refusal : Link → List ℕ → ℕ
  chain_refusal k bs =
      first_holding
      ((4, eqb b.running 16) then follow (log_of b log_rows log_values) (found_on b escrow_rows escrow_values) 16 k bs)

  unfoldable pub chain_answer : Link → List ℕ → Answer
  chain_answer k bs =
      answered (chain_refusal k bs) (links_from (log_of b log_rows log_values) (found_on b escrow_rows escrow_values) 16 k bs)

-- the answer from a link on
abbrev pub chain_from : Custody → ℕ → Link → List ℕ → Answer
chain_from c left k bs = followed_from (log_in c) (found_in c) left k bs
