-- What a take gives of a message, over the numbering S of the ordered messages of a stream.
use Rattle.std.specs.Prelude.{ℕ, ◌≤◌, ◌≡◌, true, List, [], ◌∷◌, ◌++◌, length, drop}
use Rattle.numbers.specs.declared.circle.Ssn.{Ssn}
use Rattle.numbers.specs.Numbering.{Numbering}
use Rattle.numbers.specs.Profile.{Profile, payload_start}
use Rattle.scans.specs.Each.{All}
use Rattle.holding.specs.declared.held.Held.{Held}
use Rattle.holding.specs.declared.taking.Answer.TheVariants.{Taken}
use Rattle.holding.specs.declared.taking.Took.{Took}
use Rattle.holding.specs.Taking.{len_at, length_of, payload_at, message_of, emptied, advanced}
use Rattle.meaning.specs.Meant.{fragment_at}

-- the bytes of a message: the payloads of its chunks, each behind the one before
abbrev pub bytes_of : Profile → List ℕ → List Held → List ℕ → List ℕ
bytes_of P area hs [] = []
bytes_of P area hs (i ∷ is) = payload_at P area i (len_at hs i) ++ bytes_of P area hs is

-- the message at the places is was given: t is what the take answers and leaves, filled what then stands in the lent output, which was out
pub record GivesMessage (S : Numbering) (P : Profile) (hs : List Held) (next : List Ssn) (area out is : List ℕ) (t : Took) (filled : List ℕ) : Type 0 where
  pub told : t.answer ≡ Taken (message_of (length_of hs is) (fragment_at hs is 0))
  -- the message's bytes, as many as the host is told, and behind them what stood there
  pub long : length (bytes_of P area hs is) ≡ length_of hs is
  pub room : length_of hs is ≤ length out
  pub bytes : filled ≡ bytes_of P area hs is ++ drop (length_of hs is) out
  -- "and frees its places"
  pub freed : t.held ≡ emptied hs is
  -- "which then goes up by one on the circle"
  pub moved : t.next ≡ advanced S next (fragment_at hs is 0)

-- what the laws need for the bytes: a lent area of as many bytes as the places have, "payload of a DATA chunk 1 to 512"
pub record AreaFits (P : Profile) (hs : List Held) (area : List ℕ) : Type 0 where
  pub enough : payload_start P P.places ≤ length area
  pub fit : All (λ (h : Held). h.used ≡ true → h.len ≤ P.payload) hs
