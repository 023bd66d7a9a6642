-- What the sending side over tables of words needs of the definitions: each of them as an equation. Assumes nothing.
use Rattle.std.specs.Prelude.{◌≡◌, ℕ, ◌+◌, ◌-◌, ◌%◌, ◌^◌, Bool, true, false, List, map, length, get_or, replicate, ◌==◌, nat_eq, nat_le, nat_lt, slice_index_or, slice_set}
use Rattle.std.proofs.Math.Path.{refl}
use Rattle.numbers.specs.declared.circle.Tsn.{Tsn}
use Rattle.numbers.specs.declared.circle.Ssn.{Ssn}
use Rattle.numbers.specs.declared.circle.StreamId.{StreamId}
use Rattle.numbers.specs.Circle.{tsn0, ssn0}
use Rattle.numbers.specs.Numbering.{ring, on}
use Rattle.numbers.specs.Judgement.{judged}
use Rattle.numbers.specs.Profile.{Profile}
use Rattle.scans.specs.Scan.{pick, any, count, either, fold_from}
use Rattle.scans.specs.Upto.{any_upto, run_while}
use Rattle.path.specs.Sizes.{Sizes}
use Rattle.path.specs.Path.{fresh_path, sampled_by, backed_off, path_heard, path_expired, is_over, is_path_within}
use Rattle.places.specs.declared.place.Chunk.{Chunk}
use Rattle.places.specs.declared.place.Place.{Place}
use Rattle.places.specs.declared.sack.Sack.{Sack}
use Rattle.places.specs.Places.{ahead_of, being, has_status, weight_of, tallied, missed_all, marked_for_resend, is_empty}
use Rattle.places.specs.SackBlocks.{held, last_end}
use Rattle.places.specs.Sack.{sack_taken_in}
use Rattle.sending.specs.declared.sending.Sending.{Sending}
use Rattle.sending.specs.declared.choosing.Best.{Best}
use Rattle.sending.specs.declared.choosing.Chosen.{Chosen}
use Rattle.sending.specs.declared.cutting.Message.{Message}
use Rattle.sending.specs.Sending.{no_place, fresh_sending, sent_above_point, is_bare, has_outstanding, with_flight, with_path, sending_sampled, sending_backed_off, sending_heard}
use Rattle.sending.specs.Acknowledge.{judged_blocks, sack_judged, judged_point, is_moved, limit_of, probe_answered, path_after, sack_accepted, acknowledged_sending, shut_of, shutdown_point}
use Rattle.sending.specs.Expiry.{overdue, sending_expired}
use Rattle.sending.specs.SendingBounds.{is_place_odd, is_gap, has_gap, is_successive, is_bounded, is_sending_within}
use Rattle.sending.specs.Carry.{carried}
use Rattle.sending.specs.HandIn.{chunks_of, is_refused, refusal, part_len, chunk_at, waiting_at, takes, chunk_after, message_laid_out, chunk_stored, stored_in, waited, handed_in, handed_in_area}
use Rattle.sending.specs.Choose.{rank_of, better_place, best_place, size_of, goes, next_ssn, ssns_counted, numbered, put, again, first_sent, sent, tsn_of, going, filling, fill_begun, packet_filled}

-- ---- a record that begins, whether anything is left, and what bears on the path alone

pub fresh-sending-is : (z : Sizes) (P : Profile) (t : Tsn) (window m : ℕ) → fresh_sending z P t window m ≡ record {
  acked = record { 0 = on (ring (2 ^ 32)) t.0 (2 ^ 32 - 1) };
  next_tsn = t;
  advertised = window;
  oldest = 0;
  places = replicate P.places no_place;
  next = replicate P.streams ssn0;
  path = fresh_path z;
  mode = m;
}
unfolding fresh_sending
fresh-sending-is z P t window m = refl

pub bare-is : (s : Sending) → is_bare s ≡ is_empty s.places
unfolding is_bare
bare-is s = refl

pub sampled-is : (z : Sizes) (s : Sending) (sample : ℕ) → sending_sampled z s sample ≡ with_path s (sampled_by z s.path sample)
unfolding sending_sampled
sampled-is z s sample = refl

pub doubled-is : (z : Sizes) (s : Sending) → sending_backed_off z s ≡ with_path s (backed_off z s.path)
unfolding sending_backed_off
doubled-is z s = refl

pub heard-is : (s : Sending) → sending_heard s ≡ with_path s (path_heard s.path)
unfolding sending_heard
heard-is s = refl

-- ---- a SACK, a SHUTDOWN's point

pub judged-is : (s : Sending) (k : Sack) → judged_point s k
    ≡ pick (s.acked.0 == k.point.0) (judged_blocks k.blocks (sent_above_point s)) (sack_judged k.blocks (sent_above_point s) (judged (ring (2 ^ 32)) s.acked.0 (sent_above_point s) k.point.0))
unfolding judged_point
judged-is s k = refl

pub limit_is : (s : Sending) (k : Sack) (highest : ℕ) → limit_of s k highest
    ≡ pick s.path.running (pick (nat_lt (ahead_of s.acked k.point) 1) highest (ahead_of s.acked k.point + last_end k.blocks (held k.blocks))) highest
unfolding limit_of
limit_is s k highest = refl

pub accepted-is : (z : Sizes) (s : Sending) (k : Sack) → sack_accepted z s k
    ≡ (let taken = sack_taken_in k s.acked s.places in
    let missed = missed_all s.acked (limit_of s k taken.highest) taken.places in
    let tally = tallied s.acked missed.places in
    record {
      acked = k.point;
      next_tsn = s.next_tsn;
      advertised = k.window;
      oldest = s.oldest;
      places = missed.places;
      next = s.next;
      path = with_flight (path_after z (probe_answered s.path k) taken.newly (is_moved s.acked k.point) missed.struck (record { 0 = on (ring (2 ^ 32)) s.acked.0 tally.last }) tally.left k.point) tally.flight;
      mode = s.mode;
    })
unfolding sack_accepted
accepted-is z s k = refl

pub acknowledged-sending-is : (z : Sizes) (s : Sending) (k : Sack)
    → acknowledged_sending z s k ≡ record { number = judged_point s k; sending = pick (judged_point s k == 0) (sack_accepted z s k) s }
unfolding acknowledged_sending
acknowledged-sending-is z s k = refl

pub shutdown-is : (z : Sizes) (s : Sending) (point : Tsn) → shutdown_point z s point
    ≡ pick (judged_point s (shut_of s point) == 15) (record { number = 0; sending = s }) (acknowledged_sending z s (shut_of s point))
unfolding shutdown_point
shutdown-is z s point = refl

-- ---- T3

pub outstanding-is : (s : Sending) → has_outstanding s ≡ (tallied s.acked s.places).left
unfolding has_outstanding
outstanding-is s = refl

pub overdue-is : (z : Sizes) (s : Sending) → overdue z s ≡ record {
  acked = s.acked;
  next_tsn = s.next_tsn;
  advertised = s.advertised;
  oldest = s.oldest;
  places = map marked_for_resend s.places;
  next = s.next;
  path = with_flight (path_expired z s.path) (tallied s.acked (map marked_for_resend s.places)).flight;
  mode = s.mode;
}
unfolding overdue
overdue-is z s = refl

pub expired-is : (z : Sizes) (s : Sending) → sending_expired z s
    ≡ pick (has_outstanding s)
    (pick (is_over z s.path) (record { number = 0; over = true; sending = s }) (record { number = 0; over = false; sending = overdue z s }))
    (record { number = 7; over = false; sending = s })
unfolding sending_expired
expired-is z s = refl

-- ---- the bounds

pub gap_is : (seen : List Bool) (n : ℕ) → has_gap seen n ≡ any_upto (is_gap seen) 0 n
unfolding has_gap
gap_is seen n = refl

pub bounded-is : (z : Sizes) (P : Profile) (s : Sending) → is_bounded z P s
    ≡ pick (is_path_within z s.path)
    (pick ((tallied s.acked s.places).flight == s.path.flight)
    (pick (any (is_place_odd P) s.places) false
    (pick (nat_lt (ahead_of s.acked s.next_tsn) 1) false
    (pick (is_successive P s true (sent_above_point s)) (is_successive P s false (count (has_status 1) s.places)) false)))
    false)
    false
unfolding is_bounded
bounded-is z P s = refl

pub within-is : (z : Sizes) (P : Profile) (s : Sending) → is_sending_within z P s ≡ pick (nat_lt 1 s.mode) false (is_bounded z P s)
unfolding is_sending_within
within-is z P s = refl

-- ---- a message

pub refusal_is : (P : Profile) (s : Sending) (len : ℕ) (stream : StreamId) (streams : ℕ)
    → refusal P s len stream streams ≡ pick (is_refused P len stream streams) 19 (pick (nat_lt (count (has_status 0) s.places) (chunks_of P len)) 20 0)
unfolding refusal
refusal_is P s len stream streams = refl

pub chunk-is : (P : Profile) (m : Message) (n k : ℕ) → chunk_at P m n k ≡ record {
  tsn = tsn0;
  order = (m.first + k) % 2 ^ 32;
  stream = m.stream;
  ssn = ssn0;
  ppid = m.ppid;
  len = part_len P m.len k;
  begin = (k == 0);
  end = (k + 1 == n);
  unordered = m.unordered;
}
unfolding chunk_at
chunk-is P m n k = refl

pub waiting-is : (P : Profile) (m : Message) (n k : ℕ) → waiting_at P m n k ≡ record { status = 1; misses = 0; chunk = chunk_at P m n k }
unfolding waiting_at
waiting-is P m n k = refl

pub laid-out-is : (P : Profile) (m : Message) (n : ℕ) (ps : List Place) → message_laid_out P m n ps ≡ carried (chunk_after n) (λ k p. pick (takes n k p) (waiting_at P m n k) p) 0 ps
unfolding message_laid_out
laid-out-is P m n ps = refl

pub stored_is : (P : Profile) (n : ℕ) (message : List ℕ) (ps : List Place) (area : List ℕ)
    → stored_in P n message ps area ≡ (fold_from (chunk_stored P n message) (record { chunk = 0; area = area }) 0 ps).area
unfolding stored_in
stored_is P n message ps area = refl

module _ (P : Profile) (s : Sending) (len : ℕ) (stream : StreamId) (unordered : Bool) (ppid : ℕ) where
  pub waited-is : waited P s len stream unordered ppid
      ≡ (let m : Message = record { len = len; first = (s.oldest + count (has_status 1) s.places) % 2 ^ 32; stream = stream; ppid = ppid; unordered = unordered } in
      record {
        acked = s.acked;
        next_tsn = s.next_tsn;
        advertised = s.advertised;
        oldest = s.oldest;
        places = message_laid_out P m (chunks_of P len) s.places;
        next = s.next;
        path = s.path;
        mode = s.mode;
      })
  unfolding waited
  waited-is = refl

  pub handed-is : (streams : ℕ) → handed_in P s len stream unordered ppid streams
      ≡ record {
        number = refusal P s len stream streams;
        chunks = pick (refusal P s len stream streams == 0) (chunks_of P len) 0;
        sending = pick (refusal P s len stream streams == 0) (waited P s len stream unordered ppid) s;
      }
  unfolding handed_in
  handed-is streams = refl

pub handed-in-area-is : (P : Profile) (s : Sending) (area message : List ℕ) (stream : StreamId) (streams : ℕ) → handed_in_area P s area message stream streams
    ≡ pick (refusal P s (length message) stream streams == 0) (stored_in P (chunks_of P (length message)) message s.places area) area
unfolding handed_in_area
handed-in-area-is P s area message stream streams = refl

-- ---- a packet

pub better-place-is : (acked : Tsn) (oldest : ℕ) (b : Best) (i : ℕ) (p : Place)
    → better_place acked oldest b i p ≡ pick (nat_lt (rank_of acked oldest p) b.rank) (record { rank = rank_of acked oldest p; place = i }) b
unfolding better_place
better-place-is acked oldest b i p = refl

pub best-is : (acked : Tsn) (oldest : ℕ) (ps : List Place) → best_place acked oldest ps ≡ fold_from (better_place acked oldest) (record { rank = 8589934592; place = 0 }) 0 ps
unfolding best_place
best-is acked oldest ps = refl

pub goes-is : (f : Chosen) (b : Best) (p : Place) → goes f b p
    ≡ pick (nat_le 8589934592 b.rank) false
    (pick (nat_le f.sending.path.control.cwnd f.sending.path.flight) false
    (pick (nat_lt f.room (size_of p)) false
    (pick (nat_lt b.rank 4294967296) true
    (pick (f.sending.path.flight == 0) true
    (nat_le p.chunk.len (f.sending.advertised - f.payload))))))
unfolding goes
goes-is f b p = refl

pub ssn-is : (P : Profile) (ns : List Ssn) (c : Chunk) → next_ssn P ns c ≡ pick c.unordered ssn0 (pick (nat_lt c.stream.0 P.streams) (slice_index_or ns c.stream.0 ssn0) ssn0)
unfolding next_ssn
ssn-is P ns c = refl

pub counted_is : (P : Profile) (ns : List Ssn) (c : Chunk) → ssns_counted P ns c
    ≡ pick c.unordered ns
    (pick c.end (pick (nat_lt c.stream.0 P.streams) (slice_set ns c.stream.0 (record { 0 = on (ring (2 ^ 16)) (get_or ns c.stream.0 ssn0).0 1 })) ns) ns)
unfolding ssns_counted
counted_is P ns c = refl

pub numbered_is : (P : Profile) (s : Sending) (c : Chunk) → numbered P s c ≡ record {
  tsn = s.next_tsn;
  order = c.order;
  stream = c.stream;
  ssn = next_ssn P s.next c;
  ppid = c.ppid;
  len = c.len;
  begin = c.begin;
  end = c.end;
  unordered = c.unordered;
}
unfolding numbered
numbered_is P s c = refl

pub tsn-is : (s : Sending) (p : Place) → tsn_of s p ≡ pick (p.status == 3) p.chunk.tsn s.next_tsn
unfolding tsn_of
tsn-is s p = refl

module _ (P : Profile) (s : Sending) (i : ℕ) (p : Place) where
  pub sent-again : nat_eq p.status 3 ≡ true → sent P s i p ≡ record {
    acked = s.acked;
    next_tsn = s.next_tsn;
    advertised = s.advertised;
    oldest = s.oldest;
    places = slice_set s.places i (being p 2);
    next = s.next;
    path = with_flight s.path (s.path.flight + weight_of p);
    mode = s.mode;
  }
  unfolding sent again put
  sent-again e = rw e

  pub sent-first : nat_eq p.status 3 ≡ false → sent P s i p ≡ record {
    acked = s.acked;
    next_tsn = record { 0 = on (ring (2 ^ 32)) s.next_tsn.0 1 };
    advertised = s.advertised;
    oldest = (s.oldest + 1) % 2 ^ 32;
    places = slice_set s.places i (record { status = 2; misses = p.misses; chunk = numbered P s p.chunk });
    next = ssns_counted P s.next p.chunk;
    path = with_flight s.path (s.path.flight + weight_of p);
    mode = s.mode;
  }
  unfolding sent first_sent put numbered
  sent-first e = rw e

pub going-is : (f : Chosen) → going f
    ≡ (let b : Best = best_place f.sending.acked f.sending.oldest f.sending.places in
    record { go = goes f b (slice_index_or f.sending.places b.place no_place); place = b.place })
unfolding going
going-is f = refl

pub filling-is : (P : Profile) (f : Chosen) (i : ℕ) → filling P f i
    ≡ (let p : Place = get_or f.sending.places i no_place in
    record {
      sending = sent P f.sending i p;
      payload = f.payload + p.chunk.len;
      room = f.room - size_of p;
      count = f.count + 1;
      places = slice_set f.places f.count i;
      resent = either f.resent (p.status == 3);
      first = pick (nat_lt f.count 1) (tsn_of f.sending p) f.first;
      last = tsn_of f.sending p;
    })
unfolding filling
filling-is P f i = refl

pub begun-is : (z : Sizes) (s : Sending) → fill_begun z s ≡ record {
  sending = with_path s (with_flight s.path (tallied s.acked s.places).flight);
  payload = (tallied s.acked s.places).payload;
  room = z.room;
  count = 0;
  places = replicate z.bundled 0;
  resent = false;
  first = tsn0;
  last = tsn0;
}
unfolding fill_begun
begun-is z s = refl

pub filled_is : (z : Sizes) (P : Profile) (s : Sending) → packet_filled z P s ≡ run_while (λ f. (going f).go) (λ f. filling P f (going f).place) (fill_begun z s) z.bundled
unfolding packet_filled
filled_is z P s = refl
