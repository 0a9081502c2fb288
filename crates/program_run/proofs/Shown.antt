-- Sessions that are read one over the other.
use Rattle.std.proofs.Common.{◌≡◌, ◌∙◌, ℕ, List, [], ◌∷◌, ◌++◌, Option, Some, None, refl, sym, ap, subst}
use Rattle.std.proofs.lemmas.List.{map-append}
use Rattle.item_ids.proofs.Lists.{all_push}
use Rattle.sessions.specs.Sessions.{AreTaken, IsSession, IsTakenFrom, SessionValue}
use Rattle.sessions.specs.Spelling.{file_of}
use Rattle.audit_replay.specs.Audits.{last_of}
use Rattle.audit_replay.proofs.FileRules.{last_more}
use Rattle.program_run.specs.Failures.{AreUnshown, IsUnshown}
use Rattle.program_run.specs.Shows.{IsLastOf, IsLastPair, IsNextPair, last_session}
use Rattle.program_run.specs.declared.failure.Failure.{Failure}
use Rattle.program_run.specs.declared.failure.Failure.TheVariants as failure
use Rattle.program_run.specs.declared.subcommands.last.LastPair.{LastPair}

taken_behind : (past : Option SessionValue) (ss : List SessionValue) (s : SessionValue) → AreTaken past ss → IsTakenFrom (last_of past ss) s → AreTaken past (ss ++ s ∷ [])
taken_behind past [] s taken more = (more, tt)
taken_behind past (t ∷ ss) s taken more = (taken.0, taken_behind (Some t) ss s taken.1 more)

-- of no sessions there is no last one
pub none_of : IsLastOf [] None
none_of = record { sessions = []; have = record { each = tt; taken = tt; spelled = refl }; is_last = refl }

-- one more session is the last one
pub one_behind : (files : List (List ℕ)) (past : Option SessionValue) (s : SessionValue) → IsLastOf files past → IsSession s → IsTakenFrom past s → IsLastOf (files ++ file_of s ∷ []) (Some s)
one_behind files past s is session taken = record {
  sessions = is.sessions ++ s ∷ [];
  have = record {
    each = all_push IsSession is.sessions s is.have.each session;
    taken = taken_behind None is.sessions s is.have.taken (subst (λ p. IsTakenFrom p s) (sym is.is_last) taken);
    spelled = map-append file_of is.sessions (s ∷ []) ∙ ap (λ (fs : List (List ℕ)). fs ++ file_of s ∷ []) is.have.spelled;
  };
  is_last = last_more None is.sessions s;
}

-- ---- the last two

-- the last of the pair is the last of all
pub pair_last : (files : List (List ℕ)) (last : Option LastPair) → IsLastPair files last → IsLastOf files (last_session last)
pair_last files None is = subst (λ (fs : List (List ℕ)). IsLastOf fs None) (sym is) none_of
pair_last files (Some pair) is =
    subst (λ (fs : List (List ℕ)). IsLastOf fs (Some pair.session)) (sym is.behind) (one_behind is.front pair.past pair.session is.before is.session is.taken)

-- one more session makes a pair with the last one
pub next_pair : (files : List (List ℕ)) (last : Option LastPair) (bytes : List ℕ) (pair : LastPair) → IsLastPair files last → IsNextPair last bytes pair → IsLastPair (files ++ bytes ∷ []) (Some pair)
next_pair files last bytes pair is next = record {
  front = files;
  behind = ap (λ (b : List ℕ). files ++ b ∷ []) next.file;
  before = subst (λ past. IsLastOf files past) (sym next.past) (pair_last files last is);
  session = next.session;
  taken = next.taken;
}

-- ---- why they aren't

-- a file behind those that were read isn't shown, nor are they all
pub shown_fails : (files front : List (List ℕ)) (file : List ℕ) (rest : List (List ℕ)) (past : Option SessionValue) (why : Failure)
    → files ≡ front ++ file ∷ rest → IsLastOf front past → IsUnshown past file why → AreUnshown files why
shown_fails files front file rest past (failure.SessionFile fault) parts last f =
    record { front = front; file = file; rest = rest; parts = parts; past = past; last = last; refused = f }
shown_fails files front file rest past failure.OutOfMemory parts last f = tt
shown_fails files front file rest past why parts last f = absurd f
