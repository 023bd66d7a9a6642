-- The parts of the head that have flags, each flag a byte.
use Rattle.std.specs.Prelude.{map}
use mir.Val.{bool_byte}
use Rattle.numbers.specs.declared.keeping.Keeping.{Keeping}
use Rattle.path.specs.declared.path.Path.{Path}
use Rattle.sender.specs.declared.Sender.{Sender}
use Rattle.kept.specs.declared.parts.KeptKeeping.{KeptKeeping}
use Rattle.kept.specs.declared.parts.KeptPath.{KeptPath}
use Rattle.kept.specs.declared.parts.KeptSender.{KeptSender}
use Rattle.kept.specs.Flags.{is_yes}

abbrev pub unpacked_keeping : KeptKeeping → Keeping
unpacked_keeping k = record { point = k.point; come = map is_yes k.come; dups = k.dups; listed = k.listed }

abbrev pub packed_keeping : Keeping → KeptKeeping
packed_keeping k = record { point = k.point; come = map bool_byte k.come; dups = k.dups; listed = k.listed }

abbrev pub unpacked_path : KeptPath → Path
unpacked_path p = record {
  control = p.control;
  clock = record { sampled = is_yes p.clock.sampled; srtt = p.clock.srtt; rttvar = p.clock.rttvar; rto = p.clock.rto };
  flight = p.flight;
  running = is_yes p.running;
  until = p.until;
  tries = p.tries;
}

abbrev pub packed_path : Path → KeptPath
packed_path p = record {
  control = p.control;
  clock = record { sampled = bool_byte p.clock.sampled; srtt = p.clock.srtt; rttvar = p.clock.rttvar; rto = p.clock.rto };
  flight = p.flight;
  running = bool_byte p.running;
  until = p.until;
  tries = p.tries;
}

abbrev pub unpacked_sender : KeptSender → Sender
unpacked_sender s = record {
  acked = s.acked;
  next_tsn = s.next_tsn;
  advertised = s.advertised;
  oldest = s.oldest;
  path = unpacked_path s.path;
  mode = s.mode;
}

abbrev pub packed_sender : Sender → KeptSender
packed_sender s = record {
  acked = s.acked;
  next_tsn = s.next_tsn;
  advertised = s.advertised;
  oldest = s.oldest;
  path = packed_path s.path;
  mode = s.mode;
}
