-- `Table`, the worked values of document 01's (d); `Determined`, what its (a) asks of every contract.
pub mod Table
pub mod Determined
