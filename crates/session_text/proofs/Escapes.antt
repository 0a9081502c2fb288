-- Labels, one character after the other.
use Rattle.std.proofs.Common.{◌≡◌, ◌∙◌, ℕ, List, [], ◌∷◌, ◌++◌, encode_utf8_all, flat_map, sym, ap, append_assoc, append-nil}
use Rattle.std.proofs.lemmas.Grind.{flat_map-append}
use Rattle.std.proofs.lemmas.Str.{encodes-append}
use Rattle.session_text.specs.SessionGraph.{escaped_char}

-- a character more
pub escape_more : (start old new done : List ℕ) (c : ℕ) → old ≡ start ++ encode_utf8_all (flat_map escaped_char done) → new ≡ old ++ encode_utf8_all (escaped_char c)
    → new ≡ start ++ encode_utf8_all (flat_map escaped_char (done ++ c ∷ []))
escape_more start old new done c old_is new_is =
    let before = flat_map escaped_char done in
    let longer : flat_map escaped_char (done ++ c ∷ []) ≡ before ++ escaped_char c =
    flat_map-append escaped_char done (c ∷ []) ∙ ap (λ (t : List ℕ). before ++ t) (append-nil (escaped_char c)) in
    let spelled : encode_utf8_all (flat_map escaped_char (done ++ c ∷ [])) ≡ encode_utf8_all before ++ encode_utf8_all (escaped_char c) =
    ap encode_utf8_all longer ∙ encodes-append before (escaped_char c) in
    new_is ∙ (ap (λ (t : List ℕ). t ++ encode_utf8_all (escaped_char c)) old_is
    ∙ (append_assoc start (encode_utf8_all before) (encode_utf8_all (escaped_char c)) ∙ ap (λ (t : List ℕ). start ++ t) (sym spelled)))
