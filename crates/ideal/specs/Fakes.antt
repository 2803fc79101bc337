-- The fakes that document 01 names under "What the buyer won't accept". Demand 2 shuts out each, though each satisfies
-- secrecy; and demand 3 shuts out a definition in which a heap byte steers the handle, and those in which a number tells one
-- where it is compared.
use Rattle.std.specs.Prelude.{ℕ, ◌+◌, ◌/◌, ◌%◌, ◌^◌, ◌≡◌, Bool, true, not, cond, ◌&&◌, [], reverse, get_or, set, replicate, eqb, ltb}
use Rattle.record.specs.Read.{Reading, refused, whole, read}
use Rattle.record.specs.Write.{filled}
use Rattle.ideal.specs.State.{Escrowed, any}
use Rattle.ideal.specs.Step.{with_common}
use Rattle.ideal.specs.Tables.{Tables, heap_start, tables, state_of}
use Rattle.ideal.specs.Box.{Element, Result, call_on}
use Rattle.ideal.specs.Refusals.{caller_in, EachNumber}
use Rattle.ideal.specs.Answers.{AcceptedAnswers}
use Rattle.ideal.specs.History.{HistoryHolds, Reports}
use Rattle.ideal.specs.Accuracy.{RetrieveIsAccurate}
use Rattle.ideal.specs.OneCall.{with_shared, AcceptedCalls}
use Rattle.ideal.specs.Secrecy.{Secrecy}
use Rattle.ideal.specs.Demands.{SinceFresh, Demand2}

-- the kind of the record that is read, and its length; 0 where none is read whole
unfoldable pub kind_in : Reading → ℕ
kind_in (refused code number) = 0
kind_in (whole c used) = (filled c).kind

unfoldable pub used_in : Reading → ℕ
used_in (refused code number) = 0
used_in (whole c used) = used

-- an answer that leaves the tables as they are
unfoldable pub reply : Tables → (code number used : ℕ) → Result
reply t code number used = record { tables = t; answer = record { code = code; number = number; used = used; shown = [] } }

-- ---- the fakes: each is the definition, but where that accepts a call, and keeps the bytes used

-- another result where the test holds
unfoldable pub faked : (Tables → Element → Bool) → (Tables → Element → Result) → Tables → Element → Result
faked test fake t e = cond (eqb (call_on t e).answer.code 0 && test t e) (fake t e) (call_on t e)

abbrev pub always : Tables → Element → Bool
always t e = true

abbrev pub of_kind : ℕ → Tables → Element → Bool
of_kind kind t e = eqb (kind_in (read e.bytes)) kind

-- a reply without looking
abbrev pub says : (code number : ℕ) → Tables → Element → Result
says code number t e = reply t code number (used_in (read e.bytes))

abbrev pub refuses_each : Tables → Element → Result
refuses_each = faked always (says 4 0)

-- a reply with the right tables
abbrev pub carries_out : (number : ℕ) → Tables → Element → Result
carries_out number t e = reply (call_on t e).tables 0 number (used_in (read e.bytes))

abbrev pub fixed_reply : ℕ → Tables → Element → Result
fixed_reply n = faked always (carries_out n)

-- the answers are right
abbrev pub touches_nothing : Tables → Element → Result
touches_nothing t e = record { tables = t; answer = (call_on t e).answer }

-- the definition while no place is taken
abbrev pub serves_the_first : Tables → Element → Result
serves_the_first = faked (λ t e. not (eqb t.box.taken 0)) (says 0 0)

abbrev pub invents_totals : ℕ → Tables → Element → Result
invents_totals n = faked (of_kind 13) (says 0 n)

abbrev pub says_not_there : Tables → Element → Result
says_not_there = faked (of_kind 12) (says 10 0)

abbrev pub says_log_full : Tables → Element → Result
says_log_full = faked (of_kind 9) (says 13 0)

abbrev pub says_escrow_full : Tables → Element → Result
says_escrow_full = faked (of_kind 11) (says 14 0)

-- the definition until 40 rows are used
abbrev pub recovers_nothing_later : Tables → Element → Result
recovers_nothing_later = faked (λ t e. of_kind 12 t e && ltb 40 t.box.escrow.rows) (says 10 0)

-- a report turns the log round: the counts are right, and the box is sound
unfoldable pub turned : Tables → Tables
turned t =
    let s = state_of t in
    tables (with_common s s.shared (reverse s.log) s.escrow)

abbrev pub turns_log_round : Tables → Element → Result
turns_log_round = faked (of_kind 13) (λ t e. record { tables = turned t; answer = (call_on t e).answer })

-- a box that refuses each call
abbrev pub NeverAccepts : (Tables → Element → Result) → Type 0
NeverAccepts box = (t : Tables) (e : Element) → (box t e).answer.code ≡ 0 → ⊥

-- the part of demand 2 that each falls to
pub record Faults : Type 0 where
  -- every box that refuses each call, and the fake does
  pub refuses_each_fault : (box : Tables → Element → Result) → NeverAccepts box → EachNumber box → ⊥
  pub never_accepts : NeverAccepts refuses_each
  -- whatever the reply, and whatever the total
  pub fixed_reply_fault : (n : ℕ) → AcceptedAnswers (fixed_reply n) → ⊥
  pub invents_totals_fault : (n : ℕ) → Reports (invents_totals n) → ⊥
  pub touches_nothing_fault : HistoryHolds touches_nothing → ⊥
  pub serves_the_first_fault : HistoryHolds serves_the_first → ⊥
  pub says_not_there_fault : RetrieveIsAccurate says_not_there → ⊥
  pub recovers_nothing_later_fault : RetrieveIsAccurate recovers_nothing_later → ⊥
  pub says_log_full_fault : EachNumber says_log_full → ⊥
  pub says_escrow_full_fault : EachNumber says_escrow_full → ⊥
  -- this one document 01 does not name
  pub turns_log_round_fault : AcceptedCalls turns_log_round → ⊥

pub record ShutOut : Type 0 where
  pub refuses_each_fault : (box : Tables → Element → Result) → NeverAccepts box → Demand2 box → ⊥
  pub fixed_reply_fault : (n : ℕ) → Demand2 (fixed_reply n) → ⊥
  pub invents_totals_fault : (n : ℕ) → Demand2 (invents_totals n) → ⊥
  pub touches_nothing_fault : Demand2 touches_nothing → ⊥
  pub serves_the_first_fault : Demand2 serves_the_first → ⊥
  pub says_not_there_fault : Demand2 says_not_there → ⊥
  pub recovers_nothing_later_fault : Demand2 recovers_nothing_later → ⊥
  pub says_log_full_fault : Demand2 says_log_full → ⊥
  pub says_escrow_full_fault : Demand2 says_escrow_full → ⊥
  pub turns_log_round_fault : Demand2 turns_log_round → ⊥

-- demand 3 shuts out none of them
pub record SatisfySecrecy : Type 0 where
  pub refuses_each_fault : Secrecy refuses_each
  pub fixed_reply_fault : (n : ℕ) → Secrecy (fixed_reply n)
  pub invents_totals_fault : (n : ℕ) → Secrecy (invents_totals n)
  pub touches_nothing_fault : Secrecy touches_nothing
  pub serves_the_first_fault : Secrecy serves_the_first
  pub says_not_there_fault : Secrecy says_not_there
  pub recovers_nothing_later_fault : Secrecy recovers_nothing_later
  pub says_log_full_fault : Secrecy says_log_full
  pub says_escrow_full_fault : Secrecy says_escrow_full
  pub turns_log_round_fault : Secrecy turns_log_round

-- ---- wrong where no run comes

-- the handle carries a length that no value has: only a spent row's may, and only where a host has made it
unfoldable pub carries_too_much : Escrowed → Bool
carries_too_much e = ltb 256 (e.key.handle.0 / 2 ^ 48)

-- with such a row a report clears shared memory
abbrev pub clears_shared : Tables → Element → Result
clears_shared =
    faked (λ t e. of_kind 13 t e && any carries_too_much (state_of t).escrow)
    (λ t e. record { tables = with_shared t (replicate 1024 0); answer = (call_on t e).answer })

-- all that is said of runs from a fresh box holds of it, and what is said of one call on any tables shuts it out
pub record OnlyOneCallTells : Type 0 where
  pub since_fresh : SinceFresh clears_shared
  pub falls : AcceptedCalls clears_shared → ⊥
  pub shut_out : Demand2 clears_shared → ⊥

-- ---- a heap byte steers the handle

-- the lowest byte of a protect's draw, which stands at 14 of its record, is raised by the first of the running heap
unfoldable pub steered : Tables → Element → Element
steered t e =
    let raised = (get_or e.bytes 14 0 + get_or t.heaps (heap_start t.box.running) 0) % 256 in
    cond (eqb (kind_in (read e.bytes)) 11) (record { bytes = set e.bytes 14 raised; output_size = e.output_size; profile = e.profile }) e

unfoldable pub byte_steers : Tables → Element → Result
byte_steers t e = call_on t (steered t e)

abbrev pub TellsTheByte : Type 0
TellsTheByte = Secrecy byte_steers → ⊥

-- ---- a number tells a heap byte

-- the definition, but for the calls of one kind while the caller is `who`, 0 where none runs: their number, where they are
-- refused too, is the first byte of place 0's heap
unfoldable pub tells : (kind who : ℕ) → Tables → Element → Result
tells kind who t e =
    let r = call_on t e in
    let told = eqb (kind_in (read e.bytes)) kind && eqb (caller_in t) who in
    record {
      tables = r.tables;
      answer =
          record {
            code = r.answer.code;
            number = cond told (get_or t.heaps 0 0) r.answer.number;
            used = r.answer.used;
            shown = r.answer.shown;
          };
    }

-- demand 3 exempts chains of group programs and nothing else: it shuts out a box that tells the byte by the chain of a program
-- outside the group, by a chain while none runs, or by a group program's own check
pub record NoOtherExempt : Type 0 where
  pub outsider : Secrecy (tells 15 3) → ⊥
  pub nobody : Secrecy (tells 15 0) → ⊥
  pub own_check : Secrecy (tells 10 1) → ⊥
