-- The previous session, file by file.
use Rattle.std.proofs.Common.{◌≡◌, ◌≢◌, ◌∙◌, ◌<◌, ◌≤◌, ◌+◌, inl, inr, ℕ, zero, suc, List, [], ◌∷◌, ◌++◌, Option, Some, None, Result, Ok, Err, length, take, drop, map, refl, sym, ap, subst, arith}
use Rattle.std.specs.Prelude.{slice_get}
use Rattle.std.proofs.lemmas.Option.{none-some, same_Some, slice_get_within}
use Rattle.std.proofs.lemmas.List.{length-take, map-append, take_all}
use Rattle.audit_replay.specs.Audits.{last_of}
use Rattle.audit_replay.proofs.FileRules.{last_more}
use Rattle.item_ids.proofs.Lists.{all_push}
use Rattle.packed_files.specs.Runs.{packed_runs}
use Rattle.session_file.specs.Reading.{IsUnlessMemory, file_after}
use Rattle.session_file.specs.declared.fault.FileFault.{FileFault}
use Rattle.session_file.specs.declared.fault.FileFault.TheVariants as file
use Rattle.sessions.specs.Sessions.{AreTaken, IsSession, IsTakenFrom, SessionValue}
use Rattle.sessions.specs.Spelling.{file_of}
use Rattle.linkable.specs.Chains.{AreNoChain}
use Rattle.linkable.specs.Past.{EndWith, IsNoPastIn, IsNoSession}
use Rattle.linkable.specs.PastSteps.{AreNumbered, IsLast, IsMisnumbered, IsNoFile, IsNumbered, IsUnread}
use Rattle.linkable.specs.Stopping.{Says}
use Rattle.linkable.specs.declared.stopping.Stop.{Stop}
use Rattle.linkable.proofs.Lines.{says_weaker}

-- a fault that isn't out of memory is the first breach
pub breach_is : (fault : FileFault) (answer : Result SessionValue FileFault) → fault ≢ file.OutOfMemory → IsUnlessMemory (Err fault) answer → answer ≡ Err fault
breach_is file.OutOfMemory answer other exact = absurd (other refl)
breach_is fault answer other exact = sym exact

module _ (past : Option SessionValue) (bytes : List ℕ) (number : ℕ) (why : Stop) where
  -- a file that is that of no session isn't read, nor is one of a session with another number
  pub no_file : Says (IsNoFile past bytes number) why → Says (IsUnread past bytes number) why
  no_file says = says_weaker (IsNoFile past bytes number) (IsUnread past bytes number) (λ line none. inl none) why says

  pub other_number : (s : SessionValue) → file_after past bytes ≡ Ok s → Says (IsMisnumbered past s number) why → Says (IsUnread past bytes number) why
  other_number s reads says = says_weaker (IsMisnumbered past s number) (IsUnread past bytes number)
      (λ line other. inr (record { session = s; reads = reads; misnumbered = other })) why says

-- ---- lists of files

parts_at : {A : Type 0} (xs : List A) (k : ℕ) (x : A) → slice_get xs k ≡ Some x → xs ≡ take k xs ++ x ∷ drop (suc k) xs
parts_at [] k x e = absurd (none-some x e)
parts_at (y ∷ xs) zero x e = ap (λ z. z ∷ xs) (same_Some y x e)
parts_at (y ∷ xs) (suc k) x e = ap (λ zs. y ∷ zs) (parts_at xs k x e)

take_next : {A : Type 0} (xs : List A) (k : ℕ) (x : A) → slice_get xs k ≡ Some x → take (suc k) xs ≡ take k xs ++ x ∷ []
take_next [] k x e = absurd (none-some x e)
take_next (y ∷ xs) zero x e = ap (λ z. z ∷ []) (same_Some y x e)
take_next (y ∷ xs) (suc k) x e = ap (λ zs. y ∷ zs) (take_next xs k x e)

many_taken : {A : Type 0} (xs : List A) (k : ℕ) → k ≤ length xs → length (take k xs) ≡ k
many_taken xs k within = omega (arith, within, length-take k xs)

-- ---- the last session

pub end_none : (past : Option SessionValue) → past ≡ None → EndWith [] past
end_none past none = record { sessions = []; have = record { each = tt; taken = tt; spelled = refl }; numbered = tt; last = sym none }

taken_behind : (past : Option SessionValue) (ss : List SessionValue) (s : SessionValue) → AreTaken past ss → IsTakenFrom (last_of past ss) s → AreTaken past (ss ++ s ∷ [])
taken_behind past [] s taken more = (more, tt)
taken_behind past (t ∷ ss) s taken more = (taken.0, taken_behind (Some t) ss s taken.1 more)

numbered_behind : (past : Option SessionValue) (ss : List SessionValue) (s : SessionValue) → AreNumbered past ss → IsNumbered (last_of past ss) s → AreNumbered past (ss ++ s ∷ [])
numbered_behind past [] s numbered more = (more, tt)
numbered_behind past (t ∷ ss) s numbered more = (numbered.0, numbered_behind (Some t) ss s numbered.1 more)

module _ (files : List (List ℕ)) (k : ℕ) (bytes : List ℕ) (here : slice_get files k ≡ Some bytes) (past : Option SessionValue) (so_far : EndWith (take k files) past) where
  -- one more session is the last one
  pub end_more : (s : SessionValue) → IsSession s → IsTakenFrom past s → IsNumbered past s → bytes ≡ file_of s → EndWith (take (suc k) files) (Some s)
  end_more s session taken numbered file = record {
    sessions = so_far.sessions ++ s ∷ [];
    have = record {
      each = all_push IsSession so_far.sessions s so_far.have.each session;
      taken = taken_behind None so_far.sessions s so_far.have.taken (subst (λ p. IsTakenFrom p s) (sym so_far.last) taken);
      spelled = map-append file_of so_far.sessions (s ∷ []) ∙ ap (λ (fs : List (List ℕ)). fs ++ file_of s ∷ []) so_far.have.spelled
          ∙ ap (λ (f : List ℕ). take k files ++ f ∷ []) (sym file) ∙ sym (take_next files k bytes here);
    };
    numbered = numbered_behind None so_far.sessions s so_far.numbered (subst (λ p. IsNumbered p s) (sym so_far.last) numbered);
    last = last_more None so_far.sessions s;
  }

  unread_session : (line : List ℕ) → IsUnread past bytes k line → IsNoSession files line
  unread_session line unread = record {
    front = take k files;
    file = bytes;
    rest = drop (suc k) files;
    parts = parts_at files k bytes here;
    past = past;
    end = so_far;
    unread = subst (λ (n : ℕ). IsUnread past bytes n line) (sym (many_taken files k within)) unread;
  }
    where
      within : k ≤ length files
      within = let lt = slice_get_within files k bytes here in omega (arith, lt)

  pub end_unread : (why : Stop) → Says (IsUnread past bytes k) why → Says (IsNoSession files) why
  end_unread why says = says_weaker (IsUnread past bytes k) (IsNoSession files) unread_session why says

pub end_all : (files : List (List ℕ)) (k : ℕ) (past : Option SessionValue) → length files ≤ k → EndWith (take k files) past → EndWith files past
end_all files k past long end = subst (λ (fs : List (List ℕ)). EndWith fs past) (take_all k files long) end

-- ---- a past that some session ends

none_ends : (ss : List SessionValue) (s : SessionValue) → map file_of ss ≡ [] → last_of None ss ≡ Some s → ⊥
none_ends [] s spelled last = none-some s last
none_ends (t ∷ ts) s spelled last = absurd cc

pub some_files : (files : List (List ℕ)) (s : SessionValue) → EndWith files (Some s) → 0 < length files
some_files [] s end = absurd (none_ends end.sessions s end.have.spelled end.last)
some_files (f ∷ files) s end = omega arith

-- ---- refusals

pub no_chain : (bytes : List ℕ) (why : Stop) → Says (AreNoChain bytes) why → Says (IsNoPastIn bytes) why
no_chain bytes why says = says_weaker (AreNoChain bytes) (IsNoPastIn bytes) (λ line none. inl none) why says

module _ (bytes : List ℕ) (files : List (List ℕ)) (packed_are : packed_runs files ≡ bytes) where
  pub no_session_in : (why : Stop) → Says (IsNoSession files) why → Says (IsNoPastIn bytes) why
  no_session_in why says = says_weaker (IsNoSession files) (IsNoPastIn bytes)
      (λ line none. inr (record { files = files; packed_are = packed_are; none = inl none })) why says

  pub full_in : (s : SessionValue) (number : ℕ) → EndWith files (Some s) → number + 1 ≡ length files → (why : Stop) → Says (IsLast s number) why → Says (IsNoPastIn bytes) why
  full_in s number end many why says = says_weaker (IsLast s number) (IsNoPastIn bytes)
      (λ line last. inr (record {
        files = files;
        packed_are = packed_are;
        none = inr (record { past = s; end = end; full = last.full; number = number; number_is = many; line_is = last.line_is });
      })) why says
