-- A text that has been cut up to a place is cut on.
use Rattle.std.proofs.Common.{◌≡◌, ℕ, ◌+◌, List, [], ◌∷◌, length, drop, ◌≤◌, ◌++◌, append_assoc}
use Rattle.std.proofs.lemmas.List.{drop-drop, append-nil, nil_from_length}
use Rattle.mj_lexer.specs.declared.front.Problem.{Problem}
use Rattle.mj_lexer.specs.declared.token.TokenKind.{TokenKind}
use Rattle.mj_lexer.specs.declared.token.Token.{Token}
use Rattle.mj_lexer.specs.declared.front.Front.TheVariants.{Blank, Word, Wrong}
use Rattle.mj_lexer.specs.Fronts.{front_of}
use Rattle.mj_lexer.specs.Lexes.{Cuts, here, blank, word, Lexes, BreaksAt}
use Rattle.mj_lexer.proofs.Only.{stands_there}

-- the tokens that come after those so far are added to them
pub after_blank : (at n : ℕ) (text : List ℕ) (before tokens : List Token) (till : ℕ) (rest all : List ℕ) → front_of (drop at text) ≡ Blank n
    → ((ts : List Token) (till : ℕ) (rest : List ℕ) → Cuts at (drop at text) ts till rest → Cuts 0 all (before ++ ts) till rest)
    → Cuts (at + n) (drop (at + n) text) tokens till rest → Cuts 0 all (before ++ tokens) till rest
after_blank at n text before tokens till rest all e so_far c = so_far tokens till rest (blank n (stands_there (drop at text) (Blank n) e) (rw drop-drop c))

pub after_word : (at n : ℕ) (kind : TokenKind) (text : List ℕ) (before tokens : List Token) (till : ℕ) (rest all : List ℕ) → front_of (drop at text) ≡ Word kind n
    → ((ts : List Token) (till : ℕ) (rest : List ℕ) → Cuts at (drop at text) ts till rest → Cuts 0 all (before ++ ts) till rest)
    → Cuts (at + n) (drop (at + n) text) tokens till rest → Cuts 0 all ((before ++ record { kind = kind; start = at; end = at + n } ∷ []) ++ tokens) till rest
after_word at n kind text before tokens till rest all e so_far c = rw append_assoc (so_far (record { kind = kind; start = at; end = at + n } ∷ tokens) till rest (word kind n (stands_there (drop at text) (Word kind n) e) (rw drop-drop c)))

-- if nothing is left
pub all_cut : (at : ℕ) (text : List ℕ) (tokens : List Token) → length text ≤ 1048576 → length (drop at text) ≡ 0
    → ((ts : List Token) (till : ℕ) (rest : List ℕ) → Cuts at (drop at text) ts till rest → Cuts 0 text (tokens ++ ts) till rest) → Lexes text tokens
all_cut at text tokens short e so_far =
    let none = nil_from_length (drop at text) e in
    let c : Cuts 0 text tokens at [] = rw (← none, ← append-nil tokens) (so_far [] at (drop at text) here) in
    record { short = short; till = at; cut = c }

pub breaks : (at : ℕ) (text : List ℕ) (tokens : List Token) (problem : Problem) → length text ≤ 1048576 → front_of (drop at text) ≡ Wrong problem
    → ((ts : List Token) (till : ℕ) (rest : List ℕ) → Cuts at (drop at text) ts till rest → Cuts 0 text (tokens ++ ts) till rest) → BreaksAt text problem at
breaks at text tokens problem short e so_far = record { short = short; tokens = tokens ++ []; rest = drop at text; cut = so_far [] at (drop at text) here; wrong = stands_there (drop at text) (Wrong problem) e }
