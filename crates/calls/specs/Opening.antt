-- Our own INIT (RFC 9260 section 5.1 A).
use Rattle.std.specs.Prelude.{ℕ, List, ◌++◌, eqb}
use Rattle.scans.specs.Scan.{pick}
use Rattle.scans.specs.Upto.{smaller}
use Rattle.numbers.specs.declared.circle.Tsn.{Tsn}
use Rattle.numbers.specs.Profile.{area_bytes, rail}
use Rattle.chunks.specs.declared.init.Init.{Init}
use Rattle.chunks.specs.Types.{init_type}
use Rattle.chunks.specs.InitChunk.{init_fields, own_init}
use Rattle.chunks.specs.Frame.{framed, in_row}
use Rattle.states.specs.declared.state.State.TheVariants.{CookieWait}
use Rattle.states.specs.declared.call.Call.TheVariants.{Associate}
use Rattle.association.specs.declared.ends.Association.{Association}
use Rattle.association.specs.Fresh.{started}
use Rattle.association.specs.Bounds.{lacks_port, earlier}
use Rattle.calls.specs.Packet.{head_to_peer}
use Rattle.calls.specs.Answer.{is_short_out, barred, Plan, carrying_chunk, unless}

-- the INIT of a record: every place free, the streams wanted, the next TSN
abbrev pub association_init : Association → Init
association_init a = record {
  tag = a.ends.my_tag;
  window = area_bytes rail;
  outs = a.ends.streams_out;
  ins = rail.streams;
  tsn = a.sending.next_tsn;
}

-- the same as bytes, with our own parameters
abbrev pub init_bytes : Association → List ℕ
init_bytes a = framed init_type 0 (init_fields (association_init a) ++ in_row own_init)

-- "our own INIT, starts from a fresh record", in the mode that the record was made in: the peer's tag and initial TSN are not known yet; "128
-- streams each way at most"
unfoldable pub wanting : Association → ℕ → Tsn → ℕ → ℕ → Association
wanting a tag tsn port streams =
    started (CookieWait 0)
    (record {
      local_port = a.ends.local_port;
      peer_port = port;
      my_tag = tag;
      peer_tag = 0;
      streams_in = rail.streams;
      streams_out = smaller streams rail.streams;
      options = 0;
    })
    tsn
    0
    (record { 0 = 1 })
    a.sending.mode

-- 4 "port", our own too; 8 "INIT …: tag 0, no streams"
unfoldable pub associate_refusal : ℕ → ℕ → ℕ → ℕ → ℕ
associate_refusal local tag port streams = pick (lacks_port local port) 4 (pick (eqb tag 0) 8 (pick (eqb streams 0) 8 0))

-- "INIT has tag 0"
unfoldable pub associating : Association → ℕ → Tsn → ℕ → ℕ → List ℕ → Plan
associating a tag tsn port streams out =
    unless (earlier (barred a (is_short_out out) Associate) (associate_refusal a.ends.local_port tag port streams)) a
    (carrying_chunk (wanting a tag tsn port streams) (head_to_peer (wanting a tag tsn port streams).ends 0) (init_bytes (wanting a tag tsn port streams)))
