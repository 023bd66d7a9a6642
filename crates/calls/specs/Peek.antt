-- A packet is looked at before it arrives: the host makes a cookie for an INIT, and judges an echoed one.
use Rattle.std.specs.Prelude.{ℕ, ◌+◌, List, Option, Some, None, Result, Ok, Err, eqb, length, take, drop}
use Rattle.scans.specs.Scan.{pick}
use Rattle.octets.specs.Bytes.{u8}
use Rattle.numbers.specs.declared.refusal.Refusal.{Refusal}
use Rattle.numbers.specs.Refusal.{refusal_number}
use Rattle.packets.specs.Checks.{form_number}
use Rattle.packets.specs.Header.{header_of}
use Rattle.chunks.specs.Types.{init_type, cookie_echo_type}
use Rattle.chunks.specs.Frame.{part_from}
use Rattle.chunks.specs.InitChunk.{init_of}
use Rattle.calls.specs.declared.peeking.Peeked.{Peeked}
use Rattle.calls.specs.declared.peeking.Peeked.TheVariants.{Init, Echo}

-- what is refused, told by its number
abbrev pub told_by_number : {A : Type 0} → Result A Refusal → Result A ℕ
told_by_number (Ok x) = Ok x
told_by_number (Err r) = Err (refusal_number r)

-- the number of 01 for what was seen
abbrev pub peeked_number : Result (Option Peeked) ℕ → ℕ
peeked_number (Err n) = n
peeked_number (Ok seen) = 0

-- the packet from its first chunk on
abbrev pub first_chunk : List ℕ → List ℕ
first_chunk packet = take (length packet) (drop 12 packet)

-- an INIT with the port that it came from, and of the options that it offers those that we know: none yet; where the cookie of a COOKIE ECHO stands
unfoldable pub peeked_in : List ℕ → List ℕ → Option Peeked
peeked_in packet s =
    pick (eqb (u8 s 0) init_type) (Some (Init (init_of s) (header_of packet).source 0))
    (pick (eqb (u8 s 0) cookie_echo_type) (Some (Echo (12 + (part_from 4 s).at) (part_from 4 s).len)) None)

-- 2, 3, 5, 6 come first
unfoldable pub peeked : List ℕ → Result (Option Peeked) ℕ
peeked packet = pick (eqb (form_number packet) 0) (Ok (peeked_in packet (first_chunk packet))) (Err (form_number packet))
