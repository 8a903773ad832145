-- Where a name stands, its place in the table is the first that is the name.
use Rattle.defs_lists.proofs.PlacedLemmas.{place_found}
use Rattle.defs_lists.proofs.names.Names.place_of.Goals as goal

pub returns-clause-place : goal.returns-clause-place
returns-clause-place c =
    rw (← c.self.view_is) (place_found c.self.inside.set.keys c.args.name.now c.get_index_of.result c.get_index_of.ensures.index)
