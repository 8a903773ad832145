-- Clients that compare as the same are the same.
use Rattle.std.proofs.Common.{◌≡◌, ℕ, Bool, true, false, ◌==◌, refl, sym, ap, subst, ◌∙◌, eqb-true, eq-eqb}
use Rattle.std.proofs.lemmas.Bool.{and_parts, and_from}
use Rattle.client_rules.specs.declared.client.Client.{Client}
use Rattle.fed_journal.specs.Holders.{same_client}

pub alike : (a b : Bool) → (a ≡ true → b ≡ true) → (b ≡ true → a ≡ true) → a ≡ b
alike true b f g = sym (f refl)
alike false true f g = g refl
alike false false f g = refl

client_of : ℕ → ℕ → Client
client_of connection channel = record { connection = connection; channel = channel }

client-eta : (a : Client) → client_of a.connection a.channel ≡ a
unfolding client_of
client-eta a = refl

pub same_client-true : (a b : Client) → same_client a b ≡ true → a ≡ b
same_client-true a b h =
    let parts : ((a.connection == b.connection) ≡ true) × ((a.channel == b.channel) ≡ true) = and_parts (a.connection == b.connection) (a.channel == b.channel) h in
    sym (client-eta a) ∙ ap (λ n. client_of n a.channel) (eqb-true a.connection b.connection parts.0) ∙ ap (client_of b.connection) (eqb-true a.channel b.channel parts.1) ∙ client-eta b

pub same_client-refl : (k : Client) → same_client k k ≡ true
same_client-refl k = and_from (k.connection == k.connection) (k.channel == k.channel) (eq-eqb k.connection k.connection refl) (eq-eqb k.channel k.channel refl)

turned-client : (a b : Client) → same_client a b ≡ true → same_client b a ≡ true
turned-client a b h = subst (λ k. same_client k a ≡ true) (same_client-true a b h) (same_client-refl a)

pub same_client-turned : (a b : Client) → same_client a b ≡ same_client b a
same_client-turned a b = alike (same_client a b) (same_client b a) (turned-client a b) (turned-client b a)
