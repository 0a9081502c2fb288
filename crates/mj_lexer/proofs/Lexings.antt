-- What is computed is what is cut.
use Rattle.std.proofs.Common.{◌≡◌, ℕ, zero, suc, ◌+◌, ◌<◌, ◌≤◌, Bool, true, false, List, [], ◌∷◌, length, drop, Some, Result, Ok, Err, refl, ap, ◌∙◌, subst, arith, ◌≢◌, inl, inr, ◌⊎◌}
use Rattle.std.specs.Prelude.{nat_lt, ◌↔◌, IsSome, IsNone, IfOk, IfErr, MatchResult}
use Rattle.std.specs.Global.{Vec}
use Rattle.std.specs.Result.{result_ok, result_err}
use Rattle.std.proofs.lemmas.List.{length-drop, nil_from_length}
use Rattle.std.proofs.lemmas.Bool.Decides.{nat_tests}
use Rattle.mj_lexer.specs.declared.token.TokenKind.{TokenKind}
use Rattle.mj_lexer.specs.declared.token.Token.{Token}
use Rattle.mj_lexer.specs.declared.front.Problem.{Problem}
use Rattle.mj_lexer.specs.declared.front.Problem.TheVariants as problems
use Rattle.mj_lexer.specs.declared.front.Front.{Front}
use Rattle.mj_lexer.specs.declared.front.Front.TheVariants.{Nothing, Blank, Word, Wrong}
use Rattle.mj_lexer.specs.declared.lexer.LexFault.{LexFault}
use Rattle.mj_lexer.specs.declared.lexer.LexFault.TheVariants.{BadByte, OpenComment, NameTooLong, FileTooLong, OutOfMemory}
use Rattle.mj_lexer.specs.Fronts.{front_of, IsWithin}
use Rattle.mj_lexer.specs.Pieces.{StandsInFront}
use Rattle.mj_lexer.specs.Lexes.{limit, Cuts, here, blank, word, Lexes, BreaksAt, Breaks, fault_at}
use Rattle.mj_lexer.specs.Lexing.{Lexing, put_first, lexing_from, lexing_of, tokens_of, lex_fault_of}
use Rattle.mj_lexer.proofs.Within.{front_within}
use Rattle.mj_lexer.proofs.Only.{stands_there, front_is}

-- tokens before those that come behind them
abbrev put_all : List Token → Lexing → Lexing
put_all [] behind = behind
put_all (token ∷ tokens) behind = put_first token (put_all tokens behind)

put_all-Ok : (tokens : List Token) → put_all tokens (Ok []) ≡ Ok tokens
put_all-Ok [] = refl
put_all-Ok (token ∷ tokens) = ap (put_first token) (put_all-Ok tokens)

put_all-Err : (tokens : List Token) (fault : LexFault) → put_all tokens (Err fault) ≡ Err fault
put_all-Err [] fault = refl
put_all-Err (token ∷ tokens) fault = ap (put_first token) (put_all-Err tokens fault)

blank_within : (text : List ℕ) (n : ℕ) → front_of text ≡ Blank n → (0 < n) × (n ≤ length text)
blank_within text n e = subst (IsWithin (length text)) e (front_within text)

word_within : (text : List ℕ) (kind : TokenKind) (n : ℕ) → front_of text ≡ Word kind n → (0 < n) × (n ≤ length text)
word_within text kind n e = subst (IsWithin (length text)) e (front_within text)

-- a cut is followed, whatever agrees behind it
follows : {at : ℕ} {text : List ℕ} {tokens : List Token} {till : ℕ} {rest : List ℕ} (behind : Lexing)
    → ((pieces : ℕ) → length rest ≤ pieces → lexing_from pieces till rest ≡ behind)
    → Cuts at text tokens till rest → (pieces : ℕ) → length text ≤ pieces → lexing_from pieces at text ≡ put_all tokens behind
unfolding lexing_from
follows behind so here pieces le = so pieces le
follows {at = at} {text = text} behind so (blank n stands c) zero le = let e = front_is text (Blank n) stands in let w = blank_within text n e in absurd (omega arith)
follows {at = at} {text = text} behind so (blank n stands c) (suc pieces) le =
    let e = front_is text (Blank n) stands in
    let w = blank_within text n e in
    rw e (follows behind so c pieces (omega (arith, length-drop n text)))
follows {at = at} {text = text} behind so (word kind n stands c) zero le = let e = front_is text (Word kind n) stands in let w = word_within text kind n e in absurd (omega arith)
follows {at = at} {text = text} behind so (word kind n stands c) (suc pieces) le =
    let e = front_is text (Word kind n) stands in
    let w = word_within text kind n e in
    rw e (ap (put_first (record { kind = kind; start = at; end = at + n })) (follows behind so c pieces (omega (arith, length-drop n text))))

at_end : (at pieces : ℕ) → lexing_from pieces at [] ≡ Ok []
unfolding lexing_from front_of
at_end at zero = refl
at_end at (suc pieces) = refl

nothing_is_end : (text : List ℕ) → front_of text ≡ Nothing → text ≡ []
nothing_is_end text e = nil_from_length text (subst (IsWithin (length text)) e (front_within text))

not_at_end : (problem : Problem) → front_of [] ≡ Wrong problem → ⊥
unfolding front_of
not_at_end problem e = cc

at_fault : (at : ℕ) (rest : List ℕ) (problem : Problem) → front_of rest ≡ Wrong problem → (pieces : ℕ) → length rest ≤ pieces → lexing_from pieces at rest ≡ Err (fault_at problem at)
unfolding lexing_from
at_fault at [] problem e pieces le = absurd (not_at_end problem e)
at_fault at (b ∷ rest) problem e zero le = absurd (omega arith)
at_fault at (b ∷ rest) problem e (suc pieces) le = rw e refl

-- a text that isn't too long
short_text : (text : List ℕ) → length text ≤ limit → lexing_of text ≡ lexing_from (length text) 0 text
unfolding lexing_of
short_text text short = let no : nat_lt limit (length text) ≡ false = grind (arith, nat_tests) in rw no refl

long_text : (text : List ℕ) → limit < length text → lexing_of text ≡ Err FileTooLong
unfolding lexing_of
long_text text long = let yes : nat_lt limit (length text) ≡ true = grind (arith, nat_tests) in rw yes refl

pub lexes_gives : (text : List ℕ) (tokens : List Token) → Lexes text tokens → lexing_of text ≡ Ok tokens
lexes_gives text tokens l = short_text text l.short ∙ (follows (Ok []) (λ pieces _. at_end l.till pieces) l.cut (length text) (omega arith) ∙ put_all-Ok tokens)

breaks_at_gives : (text : List ℕ) (problem : Problem) (at : ℕ) → BreaksAt text problem at → lexing_of text ≡ Err (fault_at problem at)
breaks_at_gives text problem at b =
    short_text text b.short ∙ (follows (Err (fault_at problem at)) (at_fault at b.rest problem (front_is b.rest (Wrong problem) b.wrong)) b.cut (length text) (omega arith) ∙ put_all-Err b.tokens (fault_at problem at))

pub breaks_gives : (text : List ℕ) (fault : LexFault) → Breaks text fault → lexing_of text ≡ Err fault
breaks_gives text (BadByte at) b = breaks_at_gives text problems.Byte at b
breaks_gives text (OpenComment at) b = breaks_at_gives text problems.Comment at b
breaks_gives text (NameTooLong at) b = breaks_at_gives text problems.Name at b
breaks_gives text FileTooLong b = long_text text b
breaks_gives text OutOfMemory b = absurd b

-- each text is cut up to its end or to a problem
record CutUp (at : ℕ) (text : List ℕ) : Type 0 where
  pub tokens : List Token
  pub till : ℕ
  pub rest : List ℕ
  pub cut : Cuts at text tokens till rest
  pub stop : (rest ≡ []) ⊎ ((problem : Problem) × StandsInFront rest (Wrong problem))

cut_up : (pieces at : ℕ) (text : List ℕ) → length text ≤ pieces → CutUp at text
cut_up zero at text le = record { tokens = []; till = at; rest = text; cut = here; stop = inl (nil_from_length text (omega arith)) }
cut_up (suc pieces) at text le = by_front (front_of text) refl (λ n. cut_up pieces (at + n) (drop n text))
  where
    by_front : (front : Front) → front_of text ≡ front → ((n : ℕ) → length (drop n text) ≤ pieces → CutUp (at + n) (drop n text)) → CutUp at text
    by_front Nothing e behind = record { tokens = []; till = at; rest = text; cut = here; stop = inl (nothing_is_end text e) }
    by_front (Blank n) e behind =
        let w = blank_within text n e in
        let c : CutUp (at + n) (drop n text) = behind n (omega (arith, length-drop n text)) in
        record { tokens = c.tokens; till = c.till; rest = c.rest; cut = blank n (stands_there text (Blank n) e) c.cut; stop = c.stop }
    by_front (Word kind n) e behind =
        let w = word_within text kind n e in
        let c : CutUp (at + n) (drop n text) = behind n (omega (arith, length-drop n text)) in
        record { tokens = record { kind = kind; start = at; end = at + n } ∷ c.tokens; till = c.till; rest = c.rest; cut = word kind n (stands_there text (Word kind n) e) c.cut; stop = c.stop }
    by_front (Wrong problem) e behind = record { tokens = []; till = at; rest = text; cut = here; stop = inr (problem, stands_there text (Wrong problem) e) }

-- the text is cut, or it breaks
abbrev pub Agrees : List ℕ → Lexing → Type 0
Agrees text (Ok tokens) = Lexes text tokens
Agrees text (Err fault) = Breaks text fault

pub breaks_fault : (text : List ℕ) (at : ℕ) (problem : Problem) → BreaksAt text problem at → Breaks text (fault_at problem at)
breaks_fault text at problems.Byte b = b
breaks_fault text at problems.Comment b = b
breaks_fault text at problems.Name b = b

short_agrees : (text : List ℕ) → length text ≤ limit → Agrees text (lexing_of text)
short_agrees text short = by_stop (cut_up (length text) 0 text (omega arith))
  where
    by_end : (tokens : List Token) (till : ℕ) (rest : List ℕ) → Cuts 0 text tokens till rest → (rest ≡ []) ⊎ ((problem : Problem) × StandsInFront rest (Wrong problem)) → Agrees text (lexing_of text)
    by_end tokens till rest cut (inl e) =
        let l : Lexes text tokens = record { short = short; till = till; cut = subst (Cuts 0 text tokens till) e cut } in
        rw (lexes_gives text tokens l) l
    by_end tokens till rest cut (inr p) =
        let b : BreaksAt text p.0 till = record { short = short; tokens = tokens; rest = rest; cut = cut; wrong = p.1 } in
        rw (breaks_at_gives text p.0 till b) (breaks_fault text till p.0 b)

    by_stop : CutUp 0 text → Agrees text (lexing_of text)
    by_stop c = by_end c.tokens c.till c.rest c.cut c.stop

pub computed_agrees : (text : List ℕ) → Agrees text (lexing_of text)
computed_agrees text = by_length (nat_lt limit (length text)) refl
  where
    by_length : (t : Bool) → nat_lt limit (length text) ≡ t → Agrees text (lexing_of text)
    by_length true e = let long : limit < length text = grind (arith, nat_tests) in rw (long_text text long) long
    by_length false e = short_agrees text (grind (arith, nat_tests))

tokens_agree : (text : List ℕ) (lexing : Lexing) (tokens : List Token) → Agrees text lexing → result_ok lexing ≡ Some tokens → Lexes text tokens
tokens_agree text (Ok others) tokens agrees e = let same : others ≡ tokens = cc in subst (Lexes text) same agrees
tokens_agree text (Err fault) tokens agrees e = absurd cc

fault_agrees : (text : List ℕ) (lexing : Lexing) (fault : LexFault) → Agrees text lexing → result_err lexing ≡ Some fault → Breaks text fault
fault_agrees text (Ok tokens) fault agrees e = absurd cc
fault_agrees text (Err other) fault agrees e = let same : other ≡ fault = cc in subst (Breaks text) same agrees

pub Lexes-tokens_of : (text : List ℕ) (tokens : List Token) → Lexes text tokens ↔ (tokens_of text ≡ Some tokens)
Lexes-tokens_of text tokens = (λ l. ap result_ok (lexes_gives text tokens l), tokens_agree text (lexing_of text) tokens (computed_agrees text))

pub Breaks-lex_fault_of : (text : List ℕ) (fault : LexFault) → Breaks text fault ↔ (lex_fault_of text ≡ Some fault)
Breaks-lex_fault_of text fault = (λ b. ap result_err (breaks_gives text fault b), fault_agrees text (lexing_of text) fault (computed_agrees text))

pub tokens_or_fault : (lexing : Lexing) → IsSome (result_ok lexing) ↔ IsNone (result_err lexing)
tokens_or_fault (Ok tokens) = (λ _. refl, λ _. refl)
tokens_or_fault (Err fault) = (λ e. absurd cc, λ e. absurd cc)

-- what a lexer that finds a cut or an error can answer
memory_or_not : (fault : LexFault) → (fault ≡ OutOfMemory) ⊎ (fault ≢ OutOfMemory)
memory_or_not OutOfMemory = inl refl
memory_or_not FileTooLong = inr (λ e. cc)
memory_or_not (BadByte at) = inr (λ e. cc)
memory_or_not (OpenComment at) = inr (λ e. cc)
memory_or_not (NameTooLong at) = inr (λ e. cc)

abbrev Answer : Type 0
Answer = Result (Vec Token) LexFault

abbrev pub Found : List ℕ → Answer → Type 0
Found text r = IfOk r (λ v. Lexes text v.items)

abbrev pub Broken : List ℕ → Answer → Type 0
Broken text r = IfErr r (λ e. e ≢ OutOfMemory → Breaks text e)

pub gives_tokens : (text : List ℕ) (r : Answer) → Found text r → IfOk r (λ v. lexing_of text ≡ Ok v.items)
gives_tokens text (Ok v) found = lexes_gives text v.items found
gives_tokens text (Err e) found = tt

pub gives_fault : (text : List ℕ) (r : Answer) → Broken text r → IfErr r (λ e. e ≢ OutOfMemory → lexing_of text ≡ Err e)
gives_fault text (Ok v) broken = tt
gives_fault text (Err e) broken = λ other. breaks_gives text e (broken other)

pub only_tokens : (text : List ℕ) (r : Answer) → Found text r → Broken text r → (others : List Token) → Lexes text others → MatchResult r (λ v. v.items ≡ others) (λ e. e ≡ OutOfMemory)
only_tokens text (Ok v) found broken others l = let a = lexes_gives text v.items found in let b = lexes_gives text others l in cc
only_tokens text (Err e) found broken others l =
    elim (memory_or_not e) [ inl memory ↦ memory | inr other ↦ let a = lexes_gives text others l in let b = breaks_gives text e (broken other) in absurd cc ]

pub only_fault : (text : List ℕ) (r : Answer) → Found text r → Broken text r → (fault : LexFault) → Breaks text fault → MatchResult r (λ _. ⊥) (λ e. (e ≡ fault) ⊎ (e ≡ OutOfMemory))
only_fault text (Ok v) found broken fault b = let a = lexes_gives text v.items found in let e = breaks_gives text fault b in cc
only_fault text (Err e) found broken fault b =
    elim (memory_or_not e) [ inl memory ↦ inr memory | inr other ↦ let a = breaks_gives text fault b in let d = breaks_gives text e (broken other) in inl cc ]
