use Rattle.vx_tree.proofs.ColumnsLemmas.{column_known, canonical_columnar, canonical_open}
use Rattle.vx_tree.proofs.laws.column_laws.Goals as goal

pub returns-clause-known : goal.returns-clause-known
returns-clause-known c = column_known

pub returns-clause-canonical_columns : goal.returns-clause-canonical_columns
returns-clause-canonical_columns c = canonical_columnar

pub returns-clause-canonical_open : goal.returns-clause-canonical_open
returns-clause-canonical_open c = canonical_open
