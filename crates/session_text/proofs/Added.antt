-- Words that are added to a text.
use Rattle.std.proofs.Common.{◌≡◌, ◌∙◌, ℕ, List, ◌++◌, Result, Ok, Err, ap, sym, append_assoc}
use Rattle.std.specs.Prelude.{OnOk, if◌then◌else◌, is_ok}

pub pushed : {A E : Type 0} (r : Result A E) (new old word : List ℕ) → new ≡ (if is_ok r then old ++ word else old) → OnOk r (new ≡ old ++ word)
pushed (Ok a) new old word e = e
pushed (Err e) new old word f = tt

-- four texts in a row
pub four : (a b c d : List ℕ) → a ++ (b ++ (c ++ d)) ≡ a ++ b ++ c ++ d
four a b c d = sym (append_assoc a b (c ++ d)) ∙ sym (append_assoc (a ++ b) c d)

-- words behind those that were added before
pub added : {A E : Type 0} (r : Result A E) (new before old first word last : List ℕ) → before ≡ old ++ first → word ≡ last → new ≡ (if is_ok r then before ++ word else before)
    → OnOk r (new ≡ old ++ (first ++ last))
added (Ok a) new before old first word last front is e =
    e ∙ (ap (λ t. t ++ word) front ∙ (append_assoc old first word ∙ ap (λ w. old ++ (first ++ w)) is))
added (Err x) new before old first word last front is e = tt

-- a line that is written in three parts
pub line_made : (old a b c d e f g h i j k one two text : List ℕ) → one ≡ old ++ (a ++ (b ++ (c ++ (d ++ e)))) → two ≡ one ++ (f ++ (g ++ (h ++ i))) → text ≡ two ++ (j ++ k)
    → text ≡ old ++ (a ++ b ++ c ++ d ++ e ++ f ++ g ++ h ++ i ++ j ++ k)
line_made old a b c d e f g h i j k one two text first second third =
    let assoc : ((old ++ (a ++ (b ++ (c ++ (d ++ e))))) ++ (f ++ (g ++ (h ++ i)))) ++ (j ++ k) ≡ old ++ (a ++ b ++ c ++ d ++ e ++ f ++ g ++ h ++ i ++ j ++ k) = simp append_assoc in
    third ∙ (ap (λ t. t ++ (j ++ k)) (second ∙ ap (λ t. t ++ (f ++ (g ++ (h ++ i)))) first) ∙ assoc)
