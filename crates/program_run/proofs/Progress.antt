-- What is said of files as they are taken.
use Rattle.std.proofs.Common.{◌≡◌, ◌∙◌, ℕ, Bool, true, false, List, [], ◌∷◌, ◌++◌, length, map, slice_get, Option, Some, None, refl, sym, ap, subst, arith, append-nil, append_assoc}
use Rattle.std.specs.Io.KnownBytes.{Appends}
use Rattle.std.proofs.lemmas.List.{length-map, map-append}
use Rattle.sessions.specs.Sessions.{SessionValue}
use Rattle.sessions.specs.Spelling.{file_of}
use Rattle.mini_java.specs.Taken.{HasTaken}
use Rattle.mini_java.specs.declared.auditor.ChainAuditor.{ChainAuditor}
use Rattle.program_run.specs.Audits.{FailsBehind, IsStopped, StopsAt, TakeFails, TakesMore, TellFails, TookAll, TookFirst, progress_line, progress_of, told_last, told_of}
use Rattle.program_run.specs.declared.failure.Failure.{Failure}
use Rattle.program_run.specs.declared.failure.Failure.TheVariants as failure
use Rattle.audit_replay.specs.Audits.{last_of}
use Rattle.item_ids.proofs.Lists.{all_push}
use Rattle.session_cache.specs.Opened.{IsRead}
use Rattle.audit_replay.proofs.FileRules.{last_more}
use Rattle.program_run.proofs.Taking.{many_more}
use Rattle.program_run.proofs.Streams.{appends_both, appends_none}

-- one file more
progress_more : (names : List (List ℕ)) (ss : List SessionValue) (name : List ℕ) (s : SessionValue) → length ss ≡ length names
    → progress_of (names ++ name ∷ []) (ss ++ s ∷ []) ≡ progress_of names ss ++ progress_line name s
progress_more [] [] name s same = append-nil (progress_line name s)
progress_more [] (t ∷ ss) name s same = absurd (omega (arith, same))
progress_more (n ∷ names) [] name s same = absurd (omega (arith, same))
progress_more (n ∷ names) (t ∷ ss) name s same =
    let inner : length ss ≡ length names = omega (arith, same) in
    ap (λ rest. progress_line n t ++ rest) (progress_more names ss name s inner) ∙ sym (append_assoc (progress_line n t) (progress_of names ss) (progress_line name s))

pub told_more : (progress : Bool) (names : List (List ℕ)) (ss : List SessionValue) (name : List ℕ) (s : SessionValue) → length ss ≡ length names
    → told_of progress (names ++ name ∷ []) (ss ++ s ∷ []) ≡ told_of progress names ss ++ told_last progress name (Some s)
told_more true names ss name s same = progress_more names ss name s same
told_more false names ss name s same = refl

-- names behind those of the files that were taken say nothing
progress_front : (names rest : List (List ℕ)) (ss : List SessionValue) → length ss ≡ length names → progress_of (names ++ rest) ss ≡ progress_of names ss
progress_front [] [] [] same = refl
progress_front [] (r ∷ rest) [] same = refl
progress_front [] rest (t ∷ ss) same = absurd (omega (arith, same))
progress_front (n ∷ names) rest [] same = absurd (omega (arith, same))
progress_front (n ∷ names) rest (t ∷ ss) same =
    let inner : length ss ≡ length names = omega (arith, same) in
    ap (λ more. progress_line n t ++ more) (progress_front names rest ss inner)

told_front : (progress : Bool) (names rest : List (List ℕ)) (ss : List SessionValue) → length ss ≡ length names → told_of progress (names ++ rest) ss ≡ told_of progress names ss
told_front true names rest ss same = progress_front names rest ss same
told_front false names rest ss same = refl

-- there are as many sessions as files
pub many_sessions : (files : List (List ℕ)) (auditor : ChainAuditor) (taken : HasTaken files auditor) → length taken.sessions ≡ length files
many_sessions files auditor taken = sym (length-map taken.sessions file_of) ∙ ap (λ (fs : List (List ℕ)). length fs) taken.passed.spelled

module _ {A File : Type 0} (held : File → Option (List ℕ)) (spell : A → List ℕ) (progress : Bool) (start before after : Option (List ℕ)) where
  -- what is said of one file more
  pub took_more : (ys : List A) (y : A) (old new : ChainAuditor) (was : TookAll held (map spell ys) progress start before old)
      → TakesMore held was.front.files was.front.taken.sessions (spell y) progress new before after
      → TookAll held (map spell (ys ++ y ∷ [])) progress start after new
  took_more ys y old new was more =
      let names = map spell ys in
      let same : length was.front.taken.sessions ≡ length names = many_sessions was.front.files old was.front.taken ∙ was.many in
      let said : told_of progress (map spell (ys ++ y ∷ [])) more.taken.sessions ≡ told_of progress names was.front.taken.sessions ++ told_last progress (spell y) (Some more.session) =
      ap (λ ns. told_of progress ns more.taken.sessions) (map-append spell ys (y ∷ []))
      ∙ (ap (λ ss. told_of progress (names ++ spell y ∷ []) ss) more.behind ∙ told_more progress names was.front.taken.sessions (spell y) more.session same) in
      record {
        front = record {
          files = was.front.files ++ more.file ∷ [];
          read = all_push (IsRead held) was.front.files more.file was.front.read more.read;
          taken = more.taken;
          told = subst (λ (t : List ℕ). Appends start after t) (sym said)
              (appends_both start before after (told_of progress names was.front.taken.sessions) (told_last progress (spell y) (Some more.session)) was.front.told more.told);
        };
        many = many_more spell was.front.files ys more.file y was.many;
      }

-- of no files nothing is said
pub took_none : {File : Type 0} (held : File → Option (List ℕ)) (progress : Bool) (e : Option (List ℕ)) (auditor : ChainAuditor) → HasTaken [] auditor → TookAll held [] progress e e auditor
took_none held progress e auditor taken = record {
  front = record {
    files = [];
    read = tt;
    taken = taken;
    told = subst (λ (t : List ℕ). Appends e e t) (sym (told_none progress taken.sessions)) (appends_none e e refl);
  };
  many = refl;
}
  where
    told_none : (b : Bool) (ss : List SessionValue) → told_of b [] ss ≡ []
    told_none true ss = refl
    told_none false ss = refl

-- the files taken stand in front of those of more names
pub took_front : {File : Type 0} (held : File → Option (List ℕ)) (names rest : List (List ℕ)) (progress : Bool) (before after : Option (List ℕ)) (auditor : ChainAuditor)
    → TookAll held names progress before after auditor → TookFirst held (names ++ rest) progress before after auditor
took_front held names rest progress before after auditor all = record {
  files = all.front.files;
  read = all.front.read;
  taken = all.front.taken;
  told = subst (λ (t : List ℕ). Appends before after t)
      (sym (told_front progress names rest all.front.taken.sessions (many_sessions all.front.files auditor all.front.taken ∙ all.many))) all.front.told;
}

-- of no session nothing is said
pub told_nothing : (progress : Bool) (name : List ℕ) (last : Option SessionValue) → last ≡ None → told_last progress name last ≡ []
told_nothing true name None none = refl
told_nothing false name None none = refl
told_nothing progress name (Some s) none = absurd cc

-- if it is wanted, the line on the last session is said
pub told_this : (progress : Bool) (name line : List ℕ) (last : Option SessionValue) (s : SessionValue) → progress ≡ true → last ≡ Some s → line ≡ progress_line name s
    → line ≡ told_last progress name last
told_this true name line (Some t) s wanted same is = let e : t ≡ s = cc in is ∙ ap (progress_line name) (sym e)
told_this true name line None s wanted same is = absurd cc
told_this false name line last s wanted same is = absurd cc

-- the session that was taken last is the one behind the others
pub told_next : (progress : Bool) (called name : List ℕ) (front all : List SessionValue) (s : SessionValue) → called ≡ name → all ≡ front ++ s ∷ []
    → told_last progress called (last_of None all) ≡ told_last progress name (Some s)
told_next progress called name front all s same more =
    ap (λ n. told_last progress n (last_of None all)) same
    ∙ ap (λ last. told_last progress name last) (ap (λ ss. last_of None ss) more ∙ last_more None front s)

-- ---- why not all are taken

module _ {File : Type 0} (held : File → Option (List ℕ)) (names : List (List ℕ)) (progress : Bool) (start before after : Option (List ℕ)) where
  stops : (auditor : ChainAuditor) (took : TookFirst held names progress start before auditor) (name : List ℕ) → slice_get names (length took.files) ≡ Some name
      → (why : Failure) → FailsBehind held took.files name why × (before ≡ after) → StopsAt held names progress start after why
  stops auditor took name here why fails = record {
    auditor = auditor;
    took = record { files = took.files; read = took.read; taken = took.taken; told = subst (λ (now : Option (List ℕ)). Appends start now (told_of progress names took.taken.sessions)) fails.1 took.told };
    name = name;
    here = here;
    fails = fails.0;
  }

  pub stopped_at : (auditor : ChainAuditor) (took : TookFirst held names progress start before auditor) (name : List ℕ) → slice_get names (length took.files) ≡ Some name
      → (why : Failure) → TakeFails held took.files name progress before after why → IsStopped held names progress start after why
  stopped_at auditor took name here (failure.CannotRead path) f = stops auditor took name here (failure.CannotRead path) f
  stopped_at auditor took name here (failure.Chain fault) f = stops auditor took name here (failure.Chain fault) f
  stopped_at auditor took name here why f = f

  -- behind the files taken so far one stops the audit of them all
  pub stopped_behind : (front rest : List (List ℕ)) → front ++ rest ≡ names → (auditor : ChainAuditor) (was : TookAll held front progress start before auditor) (name : List ℕ)
      → slice_get names (length was.front.files) ≡ Some name → (why : Failure) → TakeFails held was.front.files name progress before after why → IsStopped held names progress start after why
  unfolding took_front
  stopped_behind front rest same auditor was name here why fails =
      stopped_at auditor (front_of (took_front held front rest progress start before auditor was)) name here why fails
    where
      front_of : TookFirst held (front ++ rest) progress start before auditor → TookFirst held names progress start before auditor
      front_of took = record {
        files = took.files;
        read = took.read;
        taken = took.taken;
        told = subst (λ (ns : List (List ℕ)). Appends start before (told_of progress ns took.taken.sessions)) same took.told;
      }

-- why the file of this name isn't taken
pub take_fails : {File : Type 0} (held : File → Option (List ℕ)) (front : List (List ℕ)) (name : List ℕ) (progress : Bool) (before after : Option (List ℕ))
    → before ≡ after → (why : Failure) → FailsBehind held front name why → TakeFails held front name progress before after why
take_fails held front name progress before after same (failure.CannotRead path) f = (f, same)
take_fails held front name progress before after same (failure.Chain fault) f = (f, same)
take_fails held front name progress before after same failure.OutOfMemory f = tt
take_fails held front name progress before after same why f = absurd f

-- why nothing is said of it
pub tell_fails : {File : Type 0} (held : File → Option (List ℕ)) (front : List (List ℕ)) (name : List ℕ) (progress : Bool) (before after : Option (List ℕ))
    → (why : Failure) → TellFails progress why → TakeFails held front name progress before after why
tell_fails held front name progress before after failure.Untold f = f
tell_fails held front name progress before after failure.OutOfMemory f = tt
tell_fails held front name progress before after why f = absurd f
