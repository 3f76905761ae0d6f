pub mod Words
pub mod RegistryLists
pub mod AttemptsLists
pub mod DeskLists
pub mod EndsLists
pub mod LimitTables
