-- A field table as AMQP speaks of it, without where it lies in memory.
use Rattle.std.specs.Prelude.{ℕ, ℤ, Bool, List, Option, Some, None, if◌then◌else◌}
use Rattle.std.specs.Str.{bytes_eq}

mutual
  -- A field value: RabbitMQ's table of field types, in its order (AMQP 0-9-1 Errata, "Field types").
  pub data Field : Type 0 where
    boolean : Bool → Field
    signed_octet : ℤ → Field
    octet : ℕ → Field
    signed_short : ℤ → Field
    short : ℕ → Field
    signed_long : ℤ → Field
    long : ℕ → Field
    signed_longlong : ℤ → Field
    float : List ℕ → Field
    double : List ℕ → Field
    decimal : List ℕ → Field
    long_string : List ℕ → Field
    array : Fields → Field
    timestamp : ℕ → Field
    table : Pairs → Field
    void : Field
    byte_array : List ℕ → Field

  -- the values of an array, in order
  pub data Fields : Type 0 where
    no_fields : Fields
    field : Field → Fields → Fields

  -- the names and values of a table, in order
  pub data Pairs : Type 0 where
    no_pairs : Pairs
    pair : List ℕ → Field → Pairs → Pairs

-- the value of the first pair of a name
abbrev pub first_of : List ℕ → Pairs → Option Field
first_of name no_pairs = None
first_of name (pair key v ps) = if bytes_eq key name then Some v else first_of name ps
