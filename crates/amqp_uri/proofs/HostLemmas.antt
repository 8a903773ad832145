-- A host's name is ASCII.
use Rattle.std.proofs.Common.{◌≡◌, ℕ, ◌<◌, true, List, [], ◌∷◌, All, arith}
use Rattle.std.specs.List.{list_all}
use Rattle.std.specs.Str.{IsUtf8}
use Rattle.std.proofs.lemmas.List.Elements.{All-nil, All-cons}
use Rattle.std.proofs.lemmas.Str.{IsUtf8-from_ascii}
use Rattle.std.proofs.lemmas.Str.Ascii.{IsAscii-from_all}
use Rattle.std.proofs.lemmas.Bool.{and_parts}
use Rattle.std.proofs.lemmas.Bool.Decides.{nat_tests}
use Rattle.amqp_uri.specs.Uri.{is_host_byte}

host_byte_is_ascii : (b : ℕ) → is_host_byte b ≡ true → b < 128
host_byte_is_ascii b h = grind (arith, nat_tests)

host_is_ascii : (host : List ℕ) → list_all is_host_byte host ≡ true → All (λ b. b < 128) host
host_is_ascii [] h = All-nil (λ b. b < 128)
host_is_ascii (b ∷ rest) h =
    let parts = and_parts (is_host_byte b) (list_all is_host_byte rest) h in
    All-cons (λ b. b < 128) b rest (host_byte_is_ascii b parts.0) (host_is_ascii rest parts.1)

pub host_is_text : (host : List ℕ) → list_all is_host_byte host ≡ true → IsUtf8 host
host_is_text host h = IsUtf8-from_ascii host (IsAscii-from_all host (host_is_ascii host h))
