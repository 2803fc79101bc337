-- Request P8: what an accepted release alters in the host's tables, hand-made sound ones included, and that it leaves all else.
use Rattle.std.specs.Prelude.{ℕ, ◌<◌, ◌≡◌, get_or}
use Rattle.record.specs.declared.Handle.{Handle}
use Rattle.record.specs.Call.{release}
use Rattle.record.specs.Read.{whole, read}
use Rattle.ideal.specs.declared.EscrowRow.{EscrowRow}
use Rattle.ideal.specs.State.{part}
use Rattle.ideal.specs.Tables.{Tables, escrow_table}
use Rattle.ideal.specs.Box.{Element, Result}
use Rattle.ideal.specs.Refusals.{caller_in}
use Rattle.ideal.specs.OneCall.{with_released}

abbrev pub escrow_row : Tables → ℕ → EscrowRow
escrow_row t k = get_or t.escrow_rows k escrow_table.blank

-- t before the release, u after it
pub record Released (t u : Tables) (i : ℕ) (h : Handle) : Type 0 where
  -- a used and unspent row from that source for the caller under that handle
  pub index : ℕ
  pub used : index < t.box.escrow.rows
  pub source : (escrow_row t index).source ≡ i
  pub recipient : (escrow_row t index).recipient ≡ caller_in t
  pub handle : (escrow_row t index).handle ≡ h
  pub unspent : (escrow_row t index).mark ≡ 0
  -- that row after it, by the call's own words: where it was, spent
  pub spent : escrow_row u index
      ≡ record { source = i; recipient = caller_in t; handle = h; first = (escrow_row t index).first; length = 0; mark = 1 }
  -- its mark and length, the first bytes of the rows after it, the value bytes and the bytes used; nothing else
  pub alters : u ≡ with_released t index
  -- every other row has the value that it had, byte for byte
  pub others : (k : ℕ) → k < t.box.escrow.rows → (k ≡ index → ⊥)
      → part u.escrow_values (escrow_row u k).first (escrow_row u k).length
      ≡ part t.escrow_values (escrow_row t k).first (escrow_row t k).length

abbrev pub ReleaseAlters : (Tables → Element → Result) → Type 0
ReleaseAlters box = (t : Tables) (e : Element) (source : ℕ) (handle : Handle) (used : ℕ)
    → read e.bytes ≡ whole (release source handle) used → (box t e).answer.code ≡ 0
    → Released t (box t e).tables source handle
