pub mod SomeProjects
