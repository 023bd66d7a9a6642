-- What became of a chunk: of a step the head in place of the record, and how much was written in place of the reply.
use Rattle.std.specs.Prelude.{ℕ, true, List}
use Rattle.octets.specs.Writing.{wrote_count}
use Rattle.steps.specs.Verdict.{Step}
use Rattle.flat.specs.Shown.{association_head}
use Rattle.rows.specs.declared.stepped.Stepped.{Stepped}

-- a step with so many bytes written of its reply
abbrev pub stepped_with : ℕ → Step → Stepped
stepped_with n d = record {
  head = association_head d.association;
  fate = d.fate;
  named = d.named;
  event = d.event;
  unread = d.unread;
  owed = d.owed;
  written = n;
}

-- a step whose reply is to stand in this part of the output
abbrev pub stepped_in : List ℕ → Step → Stepped
stepped_in space d = stepped_with (wrote_count space d.reply) d

-- the rest of the packet is left unread
abbrev pub unread_of : Stepped → Stepped
unread_of d = record {
  head = d.head;
  fate = d.fate;
  named = d.named;
  event = d.event;
  unread = true;
  owed = d.owed;
  written = d.written;
}
