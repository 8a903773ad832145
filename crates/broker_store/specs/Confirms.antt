-- The confirms that a virtual host owes to sessions of links for what they published there (RabbitMQ, Publisher Confirms).
use Rattle.std.specs.Prelude.{ℕ, ◌<◌, ◌==◌, ◌&&◌, Bool, if◌then◌else◌, List, [], ◌∷◌, ◌++◌, All, find, fold, map}
use Rattle.std.specs.List.{list_any}
use Rattle.std.specs.Option.{option_map_or}
use Rattle.confirm_core.specs.Waits.{Unconfirmed, released}
use Rattle.std.specs.Str.{bytes_eq}
use Rattle.broker_store.specs.declared.account.Account.{Account}

-- the session of the link published under this account
abbrev pub is_of : List ℕ → ℕ → Account → Bool
is_of link session account = bytes_eq account.link link && (account.session == session)

-- what the session published and isn't answered for yet
abbrev pub ledger_of : List ℕ → ℕ → List Account → List Unconfirmed
ledger_of link session accounts = option_map_or (λ account. account.ledger) (find (is_of link session) accounts) []

abbrev pub with_ledger : (List Unconfirmed → List Unconfirmed) → Account → Account
with_ledger change account = record account { ledger = change account.ledger }

-- each ledger is changed
abbrev pub all_ledgers : (List Unconfirmed → List Unconfirmed) → List Account → List Account
all_ledgers change accounts = map (with_ledger change) accounts

-- that of the session is changed
abbrev pub its_ledger : List ℕ → ℕ → (List Unconfirmed → List Unconfirmed) → List Account → List Account
its_ledger link session change accounts = map (λ account. if is_of link session account then with_ledger change account else account) accounts

-- the session has an account, an empty one if there was none
abbrev pub with_account : List ℕ → ℕ → List Account → List Account
with_account link session accounts =
    if list_any (is_of link session) accounts then accounts else accounts ++ record { link = link; session = session; ledger = [] } ∷ []

-- the session's publication of that number waits for these copies (RabbitMQ, Publisher Confirms: when messages are confirmed)
abbrev pub opened : List ℕ → ℕ → ℕ → List ℕ → List Account → List Account
opened link session number waits accounts =
    its_ledger link session (λ ledger. ledger ++ record { number = number; waits = waits } ∷ []) (with_account link session accounts)

-- no publication waits for any of these copies any more (RabbitMQ, Publisher Confirms: when messages are confirmed)
abbrev pub all_left : List ℕ → List Account → List Account
all_left copies accounts = fold (λ accounts copy. all_ledgers (released copy) accounts) accounts copies

-- a publication of this number would be the last (RabbitMQ, Publisher Confirms: ordering)
abbrev pub AreBelow : ℕ → List Account → Type 0
AreBelow number accounts = All (λ account. All (λ publication. publication.number < number) account.ledger) accounts
