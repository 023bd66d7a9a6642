-- What a head and the words of its tables show: the record that every definition is about.
use Rattle.std.specs.Prelude.{ℕ, List, [], replicate}
use Rattle.numbers.specs.Profile.{rail, held_word_count, place_word_count}
use Rattle.reception.specs.Reception.{receiving_shown}
use Rattle.sender.specs.Seen as sender
use Rattle.association.specs.declared.ends.Association as whole
use Rattle.association.specs.declared.ends.Cookie.{Cookie}
use Rattle.flat.specs.declared.head.Head.{Head}
use Rattle.flat.specs.declared.head.Association.{Association}

abbrev pub cookie_shown : ℕ → List ℕ → Cookie
cookie_shown n bytes = record { bytes = bytes; len = n }

-- head; words of the held chunks, next expected SSNs; words of the places to send, next SSNs; bytes of the cookie
abbrev pub shown : Head → List ℕ → List ℕ → List ℕ → List ℕ → List ℕ → whole.Association
shown h held next places next_out cookie = record {
  state = h.state;
  ends = h.ends;
  cookie = cookie_shown h.cookie_len cookie;
  receiving = receiving_shown rail h.keeping held next;
  sending = sender.sending_shown rail h.sender places next_out;
}

-- a head by itself, for what its tables have no part in
abbrev pub bare : Head → whole.Association
bare h = shown h [] [] [] [] []

-- the head of a record
abbrev pub association_head : whole.Association → Head
association_head a = record {
  state = a.state;
  ends = a.ends;
  keeping = a.receiving.keeping;
  sender = sender.sender_head a.sending;
  cookie_len = a.cookie.len;
}

-- a record by value shows what its own tables do
abbrev pub shows : Association → whole.Association
shows a = shown a.head a.held a.next_in a.places a.next_out a.cookie

-- a head with tables of zeros
abbrev pub head_over_zeros : Head → Association
head_over_zeros h = record { head = h; held = replicate (held_word_count rail) 0; next_in = replicate rail.streams 0; places = replicate (place_word_count rail) 0; next_out = replicate rail.streams 0; cookie = replicate rail.«longest-cookie» 0 }
