-- The sending side by value: its tables word by word at its start, after a message, a SACK, a SHUTDOWN's point, T3 and a packet.
use Rattle.std.specs.Prelude.{ℕ, Bool, replicate}
use Rattle.numbers.specs.declared.circle.Tsn.{Tsn}
use Rattle.numbers.specs.declared.circle.StreamId.{StreamId}
use Rattle.numbers.specs.Profile.{rail, place_word_count}
use Rattle.path.specs.Sizes.{rail_sizes, sizes_of}
use Rattle.places.specs.declared.sack.Sack.{Sack}
use Rattle.sending.specs.declared.sending.Sending.{Sending}
use Rattle.sending.specs.Sending.{fresh_sending}
use Rattle.sender.specs.Seen.{sending_shown, sender_head}
use Rattle.messages.specs.MessageWords.{handing, handed_words}
use Rattle.acks.specs.Acks.{acked_head, acked_words, shut_head, shut_words, expired_head, expired_words}
use Rattle.choice.specs.Fill.{Fill, filled_in}
use Rattle.outgoing.specs.declared.Outgoing.{Outgoing}
use Rattle.outgoing.specs.declared.HandedIn.{HandedIn}
use Rattle.outgoing.specs.declared.Expired.{Expired}
use Rattle.outgoing.specs.declared.Answered.{Answered}
use Rattle.outgoing.specs.declared.Packet.{Packet}

-- what it shows
abbrev pub outgoing_shown : Outgoing → Sending
outgoing_shown r = sending_shown rail r.head r.places r.next

abbrev pub outgoing_begun : Tsn → ℕ → ℕ → Outgoing
outgoing_begun t window mode = record { head = sender_head (fresh_sending (sizes_of mode) rail t window mode); places = replicate (place_word_count rail) 0; next = replicate rail.streams 0 }

abbrev pub handed_to : Outgoing → ℕ → StreamId → Bool → ℕ → ℕ → HandedIn
handed_to r len stream unordered ppid streams = record {
  number = (handing rail r.head r.places len stream streams).number;
  chunks = (handing rail r.head r.places len stream streams).chunks;
  outgoing = record { head = r.head; places = handed_words rail r.head r.places len stream unordered ppid streams; next = r.next };
}

abbrev pub outgoing_answered : Outgoing → Sack → Answered
outgoing_answered r k = record {
  number = (acked_head (sizes_of r.head.mode) rail r.head r.places k).number;
  outgoing = record { head = (acked_head (sizes_of r.head.mode) rail r.head r.places k).head; places = acked_words rail r.head r.places k; next = r.next };
}

abbrev pub shut_by : Outgoing → Tsn → Answered
shut_by r point = record {
  number = (shut_head (sizes_of r.head.mode) rail r.head r.places point).number;
  outgoing = record { head = (shut_head (sizes_of r.head.mode) rail r.head r.places point).head; places = shut_words rail r.head r.places point; next = r.next };
}

abbrev pub expired_in : Outgoing → Expired
expired_in r = record {
  number = (expired_head (sizes_of r.head.mode) rail r.head r.places).number;
  over = (expired_head (sizes_of r.head.mode) rail r.head r.places).over;
  outgoing = record { head = (expired_head (sizes_of r.head.mode) rail r.head r.places).head; places = expired_words (sizes_of r.head.mode) rail r.head r.places; next = r.next };
}

abbrev pub packet_of : Outgoing → Packet
packet_of r =
    let f : Fill = filled_in rail_sizes rail r.head r.places r.next in
    record { load = f.load; outgoing = record { head = f.head; places = f.words; next = f.ns } }
