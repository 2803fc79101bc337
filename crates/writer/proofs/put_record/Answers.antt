use Rattle.record.specs.Write.{record_of}
use Rattle.record.proofs.Stores.{put_next}
use Rattle.record.proofs.Writing.{record_laid}
use Rattle.writer.proofs.put_record.Goals as goal

pub returns : goal.returns
unfolding record_of
returns c =
    rw (
      record_laid _ c.requires.0,
      put_next,
      ← c.put_head.ensures,
      ← c.put_field-a.ensures.stored,
      ← c.put_field-a.ensures.next,
      put_next,
      ← c.put_field-b.ensures.stored,
      ← c.put_field-b.ensures.next,
      put_next,
      ← c.put_field-c.ensures.stored,
      ← c.put_field-c.ensures.next,
      put_next,
      ← c.put_field-d.ensures.stored,
      ← c.put_field-d.ensures.next,
      put_next,
      ← c.put_field-e.ensures.stored,
      ← c.put_field-e.ensures.next,
    )
    c.put_bytes.ensures
