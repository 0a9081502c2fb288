-- Where the next session of a cache begins.
use Rattle.std.specs.Prelude.{◌≡◌, ◌≢◌, ◌⊎◌, ℕ, ◌+◌, ◌<◌, ◌≤◌, List, ◌++◌, Option, Some, None, Result, Ok, Err, IfSome, IsSomeAnd, codes, string_bytes, if◌then◌else◌, nat_lt}
use Rattle.sessions.specs.Sessions.{SessionValue, session_in, next_number}
use Rattle.session_file.specs.declared.fault.FileFault.{FileFault}
use Rattle.session_file.specs.declared.fault.FileFault.TheVariants as refusals
use Rattle.session_cache.specs.Names.{most, entry_name}
use Rattle.session_cache.specs.declared.names.EntryKind.TheVariants.{Chain, Session}
use Rattle.session_cache.specs.declared.fault.CacheReadFault.{CacheReadFault}
use Rattle.session_cache.specs.declared.fault.CacheReadFault.TheVariants as unread
use Rattle.session_cache.specs.declared.fault.CacheWriteFault.{CacheWriteFault}
use Rattle.session_cache.specs.declared.fault.CacheWriteFault.TheVariants as unwritten
use Rattle.session_cache.specs.declared.folders.ChainFront.{ChainFront}
use Rattle.session_cache.specs.declared.folders.ChainFront.TheVariants.{Read, Ended}
use Rattle.session_cache.specs.declared.place.SessionPlace.{SessionPlace}
use Rattle.session_cache.specs.declared.start.NotFollowed.{NotFollowed}
use Rattle.session_cache.specs.declared.start.NotFollowed.TheVariants.{Refused, Number, Full}
use Rattle.session_cache.specs.declared.start.Start.{Start}
use Rattle.session_cache.specs.declared.start.LastChain.{LastChain}
use Rattle.session_cache.specs.declared.start.LastChain.TheVariants.{NoChain, NoSession, File}

-- a chain and a session of it, by numbers up to 9999
abbrev pub IsSessionPlace : SessionPlace → Type 0
IsSessionPlace p = (p.chain ≤ most) × (p.number ≤ most)

-- DIR/c0012
abbrev pub chain_path : List ℕ → ℕ → List ℕ
chain_path dir chain = dir ++ (codes "/" ++ entry_name Chain chain)

-- DIR/c0012/s0000.mjrg
abbrev pub path_of : List ℕ → SessionPlace → List ℕ
path_of dir p = chain_path dir p.chain ++ (codes "/" ++ entry_name Session p.number)

-- the place of the first session of the next chain, if there is one
abbrev pub next_chain : ℕ → Option SessionPlace
next_chain chain =
    if nat_lt chain most then Some (record { chain = chain + 1; number = 0 }) else None

-- The session continues the chain of the one at this place.
pub record ContinuesChain (last : SessionPlace) (s : SessionValue) (start : Start) : Type 0 where
  pub past : session_in start.past ≡ Some s
  pub place : start.place ≡ Some (record { chain = last.chain; number = last.number + 1 })
  pub note : start.note ≡ None

-- It begins the next chain, since the file at this place can't be continued.
pub record BeginsNext (last : SessionPlace) (why : NotFollowed) (start : Start) : Type 0 where
  pub past : session_in start.past ≡ None
  pub place : start.place ≡ next_chain last.chain
  pub note : start.note ≡ Some (record { place = last; why = why })

-- It begins this chain, which has no session.
pub record BeginsChain (chain : ℕ) (start : Start) : Type 0 where
  pub past : session_in start.past ≡ None
  pub place : start.place ≡ Some (record { chain = chain; number = 0 })
  pub note : start.note ≡ None

-- where a session begins behind a file, by what was read of it
abbrev pub IsStartBehindFile : SessionPlace → Result SessionValue FileFault → Start → Type 0
IsStartBehindFile last (Err fault) start =
    (fault ≢ refusals.OutOfMemory) × BeginsNext last (Refused fault) start
IsStartBehindFile last (Ok s) start =
    ((s.number ≢ last.number) × BeginsNext last Number start)
    ⊎ ((s.number ≡ last.number) × (most ≤ s.number) × BeginsNext last Full start)
    ⊎ ((s.number ≡ last.number) × (s.number < most) × ContinuesChain last s start)

-- where a session begins in a cache, by what was read of its last chain
abbrev pub IsStartBehind : LastChain → Start → Type 0
IsStartBehind NoChain start = BeginsChain 0 start
IsStartBehind (NoSession chain) start = BeginsChain chain start
IsStartBehind (File last read) start = IsStartBehindFile last read start

-- what is read of a cache is of a chain and a file of it, by numbers up to 9999
abbrev pub IsLastChain : LastChain → Type 0
IsLastChain NoChain = Unit {0}
IsLastChain (NoSession chain) = chain ≤ most
IsLastChain (File last read) = IsSessionPlace last

-- if a file in front of the last one ends the chain, it stands at a place
abbrev pub IsChainFront : ChainFront → Type 0
IsChainFront (Read past) = Unit {0}
IsChainFront (Ended place read) = IsSessionPlace place

-- The place, if there is one, is that of the next session, for which the previous one leaves
-- room. What is noted is noted of a place, and if there is none for the session, of one in the
-- last chain.
pub record IsStart (start : Start) : Type 0 where
  pub place : IfSome start.place IsSessionPlace
  pub number : IfSome start.place (λ p. p.number ≡ next_number (session_in start.past))
  pub room : IfSome (session_in start.past) (λ s. s.number < most)
  pub noted : IfSome start.note (λ note. IsSessionPlace note.place)
  pub ended : start.place ≡ None → IsSomeAnd start.note (λ note. note.place.chain ≡ most)

-- why a folder or a file isn't read: it can't be, or memory ran out
abbrev pub IsUnreadable : List ℕ → CacheReadFault → Type 0
IsUnreadable path (unread.CannotRead told) = string_bytes told ≡ path
IsUnreadable path unread.OutOfMemory = Unit {0}

-- why a cache isn't read: its folder or a file in it isn't
abbrev pub IsUnreadableCache : List ℕ → CacheReadFault → Type 0
IsUnreadableCache dir fault = IsUnreadable dir fault
    ⊎ ((place : SessionPlace) × IsSessionPlace place × IsUnreadable (path_of dir place) fault)

-- why the file of a place isn't written: it can't be, or memory ran out
abbrev pub IsUnwritten : List ℕ → SessionPlace → CacheWriteFault → Type 0
IsUnwritten dir place (unwritten.CannotWrite path) = string_bytes path ≡ path_of dir place
IsUnwritten dir place unwritten.OutOfMemory = Unit {0}
