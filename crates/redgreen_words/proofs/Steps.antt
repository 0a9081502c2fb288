-- From the steps of reading a message to the message.
use Rattle.std.proofs.Common.{◌≡◌, ℕ, ◌<◌, List, [], ◌∷◌, ◌++◌, length, get_or, slice_get, Option, Some, None, Result, Ok, Err, refl, sym, ap, subst, ◌∙◌, append_assoc, arith}
use Rattle.std.specs.List.{concat}
use Rattle.redgreen_words.specs.declared.word.Word.{Word}
use Rattle.redgreen_words.specs.declared.fault.LineFault.{LineFault}
use Rattle.redgreen_words.specs.declared.fault.LineFault.TheVariants.{UnknownWord, NotANumber, WrongCount}
use Rattle.redgreen_words.specs.declared.fault.ReadFault.{ReadFault}
use Rattle.redgreen_words.specs.declared.fault.ReadFault.TheVariants.{Ended, CutLine, LongLine, Line, CutString, Device, OutOfMemory}
use Rattle.redgreen_words.specs.declared.word.Word.TheVariants as words
use Rattle.redgreen_words.specs.declared.client.FromClient.{FromClient}
use Rattle.redgreen_words.specs.declared.client.FromClient.TheVariants as client
use Rattle.redgreen_words.specs.declared.engine.FromEngine.{FromEngine}
use Rattle.redgreen_words.specs.declared.engine.FromEngine.TheVariants as engine
use Rattle.redgreen_words.specs.Words.{spell, line_of, line_limit, own_count, items_of, client_takes, engine_takes, AreSmall}
use Rattle.redgreen_words.specs.Messages.{Parts, numbers_of, spelled, Fits, client_parts, engine_parts}
use Rattle.redgreen_words.specs.Feeding.{Given, OfHeld, BreaksLine, TookLine}
use Rattle.redgreen_words.specs.Faults.{HasLine, IsNoLine, IsWrong}
use Rattle.redgreen_words.specs.Steps.{StopsHead, RefusesHead, RefusesRest, Finishes, Reads, ReadsBack}
use Rattle.redgreen_words.proofs.Takings.{given_then}
use Rattle.redgreen_words.proofs.Spelled.{word_same, items_of_line}
use Rattle.redgreen_words.proofs.Unique.{messages_same, has_no_fault}

-- ---- the line

pub breaks_wrong : (takes : Word → ℕ → Type 0) (fault : ReadFault) (bytes : List ℕ) → BreaksLine fault bytes → IsWrong takes fault bytes
breaks_wrong takes Ended bytes h = h
breaks_wrong takes CutLine bytes h = h
breaks_wrong takes LongLine bytes h = h
breaks_wrong takes (Line fault) bytes h = absurd h
breaks_wrong takes (CutString k) bytes h = absurd h
breaks_wrong takes Device bytes h = tt
breaks_wrong takes OutOfMemory bytes h = tt

-- what begins with a line that was taken
here_line : {a b : List ℕ → Type 0} (line : List ℕ) (took : TookLine a b line) (bytes : List ℕ) → a bytes → (rest : List ℕ) × HasLine bytes line rest × b rest
here_line line took bytes h =
    let l = took.given.left bytes h in
    (l.rest, record { whole = l.whole ∙ append_assoc line (10 ∷ []) l.rest; one = took.one }, l.holds)

no_line : {a b : List ℕ → Type 0} (takes : Word → ℕ → Type 0) (line : List ℕ) (took : TookLine a b line) (fault : LineFault) → IsNoLine takes line fault → OfHeld a (IsWrong takes (Line fault))
no_line takes line took fault none bytes h =
    let x = here_line line took bytes h in
    record { line = line; rest = x.0; here = x.1; none = none }

head_refuses : (takes : Word → ℕ → Type 0) (line : List ℕ) (fault : LineFault) → RefusesHead line fault → IsNoLine takes line fault
head_refuses takes line UnknownWord h = λ word n fits e. h word e
head_refuses takes line (NotANumber k) h = h
head_refuses takes line (WrongCount n) h = absurd h

pub head_wrong : {a b : List ℕ → Type 0} (takes : Word → ℕ → Type 0) (line : List ℕ) → TookLine a b line → (fault : ReadFault) → StopsHead line fault → OfHeld a (IsWrong takes fault)
head_wrong takes line took Ended h bytes has = absurd h
head_wrong takes line took CutLine h bytes has = absurd h
head_wrong takes line took LongLine h bytes has = absurd h
head_wrong takes line took (Line fault) h bytes has = no_line takes line took fault (head_refuses takes line fault h) bytes has
head_wrong takes line took (CutString k) h bytes has = absurd h
head_wrong takes line took Device h bytes has = tt
head_wrong takes line took OutOfMemory h bytes has = tt

-- ---- what comes after it

rest_refuses : (takes : Word → ℕ → Type 0) (line : List ℕ) (word : Word) (numbers : List ℕ) (old : List ℕ → Type 0) (fault : LineFault) → line ≡ line_of word numbers → AreSmall numbers → slice_get (items_of line) 0 ≡ Some (spell word) → RefusesRest takes old word numbers (Line fault) → ((other : Word) → Some (spell other) ≡ Some (spell word) → other ≡ word) → IsNoLine takes line fault
rest_refuses takes line word numbers old UnknownWord is small first h same =
    λ other n fits e. h n (subst (λ (w : Word). takes w n) (same other (sym e ∙ first)) fits)
rest_refuses takes line word numbers old (NotANumber k) is small first h same = absurd h
rest_refuses takes line word numbers old (WrongCount n) is small first h same =
    record { word = word; numbers = numbers; small = small; is = is; many = sym h.0; none = h.1 }

cut_at : {a b : List ℕ → Type 0} (takes : Word → ℕ → Type 0) (line : List ℕ) (word : Word) (numbers : List ℕ) (k : ℕ) (took : TookLine a b line) → line ≡ line_of word numbers → AreSmall numbers → RefusesRest takes b word numbers (CutString k) → OfHeld a (IsWrong takes (CutString k))
cut_at takes line word numbers k took is small h bytes has =
    let x = here_line line took bytes has in
    let less = h.1.1 x.0 x.2 in
    record {
      word = word;
      numbers = numbers;
      rest = x.0;
      small = small;
      here = subst (λ (l : List ℕ). HasLine bytes l x.0) is x.1;
      fits = h.0;
      inside = h.1.0;
      short = less;
    }

pub rest_wrong : {a b : List ℕ → Type 0} (takes : Word → ℕ → Type 0) (line : List ℕ) (word : Word) (numbers : List ℕ) → TookLine a b line → line ≡ line_of word numbers → AreSmall numbers → slice_get (items_of line) 0 ≡ Some (spell word) → ((other : Word) → Some (spell other) ≡ Some (spell word) → other ≡ word) → (fault : ReadFault) → RefusesRest takes b word numbers fault → OfHeld a (IsWrong takes fault)
rest_wrong takes line word numbers took is small first same Ended h bytes has = absurd h
rest_wrong takes line word numbers took is small first same CutLine h bytes has = absurd h
rest_wrong takes line word numbers took is small first same LongLine h bytes has = absurd h
rest_wrong {a} {b} takes line word numbers took is small first same (Line fault) h bytes has = no_line takes line took fault (rest_refuses takes line word numbers b fault is small first h same) bytes has
rest_wrong takes line word numbers took is small first same (CutString k) h bytes has = cut_at takes line word numbers k took is small h bytes has
rest_wrong takes line word numbers took is small first same Device h bytes has = tt
rest_wrong takes line word numbers took is small first same OutOfMemory h bytes has = tt

-- ---- the message

pub fits_as : (p : Parts) (line : List ℕ) (word : Word) (numbers : List ℕ) → length line < line_limit → line ≡ line_of word numbers → AreSmall numbers → p.word ≡ word → numbers_of p ≡ numbers → Fits p
fits_as p line word numbers short is small word_is are = record {
  small = subst AreSmall (sym are) small;
  short = subst (λ (xs : List ℕ). length xs < line_limit) (is ∙ sym (ap (λ (w : Word). line_of w numbers) word_is) ∙ sym (ap (line_of p.word) are)) short;
}

pub given_as : {a b c : List ℕ → Type 0} (p : Parts) (line : List ℕ) (word : Word) (numbers : List ℕ) → TookLine a b line → line ≡ line_of word numbers → p.word ≡ word → numbers_of p ≡ numbers → Given b c (concat p.strings) → Given a c (spelled p)
given_as {a} {b} {c} p line word numbers took is word_is are given =
    let line_is : line ≡ line_of p.word (numbers_of p) = is ∙ sym (ap (λ (w : Word). line_of w numbers) word_is) ∙ sym (ap (line_of p.word) are) in
    let both : Given a c ((line ++ 10 ∷ []) ++ concat p.strings) = given_then (line ++ 10 ∷ []) (concat p.strings) took.given given in
    subst (Given a c) (append_assoc line (10 ∷ []) (concat p.strings) ∙ ap (λ (xs : List ℕ). xs ++ (10 ∷ concat p.strings)) line_is) both

same_word : (other word : Word) → Some (spell other) ≡ Some (spell word) → other ≡ word
same_word other word e = let same : spell other ≡ spell word = cc in word_same other word same

pub whole_reads : {M : Type 0} (old mid new : List ℕ → Type 0) (parts : M → Parts) (takes : Word → ℕ → Type 0) (line : List ℕ) (word : Word) (numbers : List ℕ) → TookLine old mid line → line ≡ line_of word numbers → AreSmall numbers → (read : Result M ReadFault) → Finishes parts takes mid new word numbers read → Reads parts takes old new read
whole_reads old mid new parts takes line word numbers took is small (Ok m) h =
    (fits_as (parts m) line word numbers took.short is small h.0 h.1, given_as (parts m) line word numbers took is h.0 h.1 h.2)
whole_reads old mid new parts takes line word numbers took is small (Err fault) h =
    rest_wrong takes line word numbers took is small
    (ap (λ (items : List (List ℕ)). slice_get items 0) (ap items_of is ∙ items_of_line word numbers small))
    (λ other e. same_word other word e) fault h

-- ---- what is written is read

pub record Laws {M : Type 0} (parts : M → Parts) (takes : Word → ℕ → Type 0) : Type 0 where
  pub own : (m : M) → length (parts m).numbers ≡ own_count (parts m).word
  pub fits : (m : M) → takes (parts m).word (length (numbers_of (parts m)))
  pub same : (m n : M) → (parts m).word ≡ (parts n).word → (parts m).numbers ≡ (parts n).numbers → (parts m).strings ≡ (parts n).strings → m ≡ n

pub reads_back : {M : Type 0} (old new : List ℕ → Type 0) (parts : M → Parts) (takes : Word → ℕ → Type 0) → Laws parts takes → (read : Result M ReadFault) → Reads parts takes old new read → (m : M) (rest : List ℕ) → Fits (parts m) → old (spelled (parts m) ++ rest) → ReadsBack new m rest read
reads_back {M} old new parts takes laws (Ok n) h m rest fit has =
    let l = h.1.left (spelled (parts m) ++ rest) has in
    let s = messages_same (parts n) (parts m) l.rest rest h.0 fit (laws.own n) (laws.own m) (sym l.whole) in
    (laws.same n m s.word_is s.numbers_are s.strings_are, subst new s.rest_is l.holds)
reads_back old new parts takes laws (Err fault) h m rest fit has =
    has_no_fault takes (parts m) rest fault fit (laws.own m) (laws.fits m) (h (spelled (parts m) ++ rest) has)

-- ---- the messages of the two sides

client_own : (m : FromClient) → length (client_parts m).numbers ≡ own_count (client_parts m).word
client_own (client.Audit paths) = refl
client_own (client.Read id key) = refl
client_own (client.Done id bytes) = refl
client_own (client.Fail id text) = refl
client_own (client.Bytes bytes) = refl
client_own client.Stop = refl

client_fits : (m : FromClient) → client_takes (client_parts m).word (length (numbers_of (client_parts m)))
client_fits (client.Audit paths) = tt
client_fits (client.Read id key) = refl
client_fits (client.Done id bytes) = refl
client_fits (client.Fail id text) = refl
client_fits (client.Bytes None) = omega arith
client_fits (client.Bytes (Some bytes)) = omega arith
client_fits client.Stop = refl

abbrev first_string : List (List ℕ) → Option (List ℕ)
first_string [] = None
first_string (string ∷ strings) = Some string

abbrev string_in : List (List ℕ) → List ℕ
string_in [] = []
string_in (string ∷ strings) = string

abbrev number_in : List ℕ → ℕ → ℕ
number_in numbers i = get_or numbers i 0

-- the message of these parts
abbrev client_with : Word → List ℕ → List (List ℕ) → FromClient
client_with words.Run numbers strings = client.Stop
client_with words.Value numbers strings = client.Stop
client_with words.Input numbers strings = client.Stop
client_with words.Stale numbers strings = client.Stop
client_with words.Accepted numbers strings = client.Stop
client_with words.Refused numbers strings = client.Stop
client_with words.Audit numbers strings = client.Audit strings
client_with words.Read numbers strings = client.Read (number_in numbers 0) (string_in strings)
client_with words.Done numbers strings = client.Done (number_in numbers 0) (string_in strings)
client_with words.Fail numbers strings = client.Fail (number_in numbers 0) (string_in strings)
client_with words.Bytes numbers strings = client.Bytes (first_string strings)
client_with words.Stop numbers strings = client.Stop

client_back : (m : FromClient) → client_with (client_parts m).word (client_parts m).numbers (client_parts m).strings ≡ m
client_back (client.Audit paths) = refl
client_back (client.Read id key) = refl
client_back (client.Done id bytes) = refl
client_back (client.Fail id text) = refl
client_back (client.Bytes None) = refl
client_back (client.Bytes (Some bytes)) = refl
client_back client.Stop = refl

client_same : (m n : FromClient) → (client_parts m).word ≡ (client_parts n).word → (client_parts m).numbers ≡ (client_parts n).numbers → (client_parts m).strings ≡ (client_parts n).strings → m ≡ n
client_same m n a b c =
    sym (client_back m)
    ∙ ap (λ (w : Word). client_with w (client_parts m).numbers (client_parts m).strings) a
    ∙ ap (λ (ns : List ℕ). client_with (client_parts n).word ns (client_parts m).strings) b
    ∙ ap (client_with (client_parts n).word (client_parts n).numbers) c
    ∙ client_back n

pub client_laws : Laws client_parts client_takes
client_laws = record { own = client_own; fits = client_fits; same = client_same }

engine_own : (m : FromEngine) → length (engine_parts m).numbers ≡ own_count (engine_parts m).word
engine_own (engine.Run id key) = refl
engine_own (engine.Value id bytes) = refl
engine_own (engine.Input key) = refl
engine_own (engine.Stale key) = refl
engine_own (engine.Accepted sessions runs values) = refl
engine_own (engine.Refused session entry code text) = refl

engine_fits : (m : FromEngine) → engine_takes (engine_parts m).word (length (numbers_of (engine_parts m)))
engine_fits (engine.Run id key) = refl
engine_fits (engine.Value id bytes) = refl
engine_fits (engine.Input key) = refl
engine_fits (engine.Stale key) = refl
engine_fits (engine.Accepted sessions runs values) = omega arith
engine_fits (engine.Refused session entry code text) = refl

-- the message of these parts
abbrev engine_with : Word → List ℕ → List (List ℕ) → FromEngine
engine_with words.Run numbers strings = engine.Run (number_in numbers 0) (string_in strings)
engine_with words.Value numbers strings = engine.Value (number_in numbers 0) (string_in strings)
engine_with words.Input numbers strings = engine.Input (string_in strings)
engine_with words.Stale numbers strings = engine.Stale (string_in strings)
engine_with words.Accepted numbers strings = engine.Accepted (number_in numbers 0) (number_in numbers 1) strings
engine_with words.Refused numbers strings = engine.Refused (number_in numbers 0) (number_in numbers 1) (number_in numbers 2) (string_in strings)
engine_with words.Audit numbers strings = engine.Input []
engine_with words.Read numbers strings = engine.Input []
engine_with words.Done numbers strings = engine.Input []
engine_with words.Fail numbers strings = engine.Input []
engine_with words.Bytes numbers strings = engine.Input []
engine_with words.Stop numbers strings = engine.Input []

engine_back : (m : FromEngine) → engine_with (engine_parts m).word (engine_parts m).numbers (engine_parts m).strings ≡ m
engine_back (engine.Run id key) = refl
engine_back (engine.Value id bytes) = refl
engine_back (engine.Input key) = refl
engine_back (engine.Stale key) = refl
engine_back (engine.Accepted sessions runs values) = refl
engine_back (engine.Refused session entry code text) = refl

engine_same : (m n : FromEngine) → (engine_parts m).word ≡ (engine_parts n).word → (engine_parts m).numbers ≡ (engine_parts n).numbers → (engine_parts m).strings ≡ (engine_parts n).strings → m ≡ n
engine_same m n a b c =
    sym (engine_back m)
    ∙ ap (λ (w : Word). engine_with w (engine_parts m).numbers (engine_parts m).strings) a
    ∙ ap (λ (ns : List ℕ). engine_with (engine_parts n).word ns (engine_parts m).strings) b
    ∙ ap (engine_with (engine_parts n).word (engine_parts n).numbers) c
    ∙ engine_back n

pub engine_laws : Laws engine_parts engine_takes
engine_laws = record { own = engine_own; fits = engine_fits; same = engine_same }
