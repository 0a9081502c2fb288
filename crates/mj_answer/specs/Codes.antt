-- Codes and their numbers.
use Rattle.std.specs.Prelude.{ℕ, List, [], ◌∷◌, Option, find, ◌==◌}
use Rattle.mj_answer.specs.declared.code.Code.{Code}
use Rattle.mj_answer.specs.declared.code.Code.TheVariants.{E101, E102, E103, E104, E201, E202, E203, E204, E205, E206, E207, E301, E302, E303, E304, E305, E306, E307, E308, E309, E310, E311, E312, E313, E314, E315, E316, E317, E318, E319}

abbrev pub code_number : Code → ℕ
code_number E101 = 101
code_number E102 = 102
code_number E103 = 103
code_number E104 = 104
code_number E201 = 201
code_number E202 = 202
code_number E203 = 203
code_number E204 = 204
code_number E205 = 205
code_number E206 = 206
code_number E207 = 207
code_number E301 = 301
code_number E302 = 302
code_number E303 = 303
code_number E304 = 304
code_number E305 = 305
code_number E306 = 306
code_number E307 = 307
code_number E308 = 308
code_number E309 = 309
code_number E310 = 310
code_number E311 = 311
code_number E312 = 312
code_number E313 = 313
code_number E314 = 314
code_number E315 = 315
code_number E316 = 316
code_number E317 = 317
code_number E318 = 318
code_number E319 = 319

abbrev pub all_codes : List Code
all_codes =
    E101 ∷ E102 ∷ E103 ∷ E104 ∷ E201 ∷ E202 ∷ E203 ∷ E204 ∷ E205 ∷ E206 ∷ E207 ∷ E301 ∷ E302 ∷ E303
    ∷ E304 ∷ E305 ∷ E306 ∷ E307 ∷ E308 ∷ E309 ∷ E310 ∷ E311 ∷ E312 ∷ E313 ∷ E314 ∷ E315 ∷ E316
    ∷ E317 ∷ E318 ∷ E319 ∷ []

-- the code with this number, if there is one
abbrev pub code_of : ℕ → Option Code
code_of n = find (λ code. code_number code == n) all_codes
